use Rattle.std.proofs.Common.{◌∙◌, length, arith}
use Rattle.std.proofs.lemmas.Result.{err_from_is_err_and}
use Rattle.rh_cluster.specs.Agreement.{boot_list_faults}
use Rattle.rh_cluster.proofs.Agreed.{number_fails}
use Rattle.rh_base.proofs.Elements.{number_passes}
use Rattle.rh_cluster.proofs.agreement.check_boot_lists.Goals as goal

pub returns-in_err-check_boot_list : goal.returns-in_err-check_boot_list
returns-in_err-check_boot_list c =
    let p = err_from_is_err_and c.from_residual.result c.from_residual.ensures.1 in
    let f = boot_list_faults c.args.shares.now c.args.nodes.now in
    rw (p.1, p.2) (number_fails f c.loop-node.node (length c.args.nodes.now) c.in_err-check_boot_list.field-0.0 _ (omega arith)
    c.in_err-check_boot_list.ensures c.loop-node.invariant)

pub loop-node-preserved : goal.loop-node-preserved
loop-node-preserved c =
    let f = boot_list_faults c.args.shares.now c.args.nodes.now in
    number_passes f c.loop-node.node (length c.args.nodes.now) (omega arith) c.in_ok-check_boot_list.ensures ∙ c.loop-node.invariant
