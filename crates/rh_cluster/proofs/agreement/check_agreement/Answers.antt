use Rattle.std.proofs.Common.{length}
use Rattle.rh_cluster.specs.Agreement.{mismatches, numbers_below, agreement_stage}
use Rattle.rh_cluster.proofs.Agreed.{wants_nothing, lists_not_memory}
use Rattle.rh_cluster.proofs.agreement.check_agreement.Goals as goal

pub returns-clause-memory : goal.returns-clause-memory
unfolding agreement_stage
returns-clause-memory c =
    let ns = numbers_below (length c.args.nodes.now) in
    rw (← c.agreed_shares.ensures) (wants_nothing c.check_boot_lists.result (mismatches c.args.names.now c.args.nodes.now c.args.all.now) _
    c.check_boot_lists.ensures (lists_not_memory c.agreed_shares.result.now c.args.nodes.now ns))
