use Rattle.std.proofs.Common.{◌∙◌, ap, length, arith}
use Rattle.std.proofs.lemmas.Result.{err_from_is_err_and}
use Rattle.rh_cluster.specs.Faults.{first}
use Rattle.rh_cluster.specs.Agreement.{mismatch_faults, has_name}
use Rattle.rh_cluster.proofs.Agreed.{number_fails, number_wants, mismatches_are}
use Rattle.rh_base.proofs.Elements.{number_passes}
use Rattle.rh_cluster.proofs.agreement.check_mismatches.Goals as goal

pub returns-in_err-check_mismatch-clause-faults : goal.returns-in_err-check_mismatch-clause-faults
returns-in_err-check_mismatch-clause-faults c =
    let p = err_from_is_err_and c.from_residual.result c.from_residual.ensures.1 in
    let f = mismatch_faults c.args.names.now c.args.nodes.now c.args.all.now c.in-Some.first in
    rw (p.1, p.2) (λ n. ap first (mismatches_are c.args.names.now c.args.nodes.now c.args.all.now c.in-Some.first c.in-Some.ensures)
    ∙ number_fails f c.loop-node.node (length c.args.all.now) c.in_err-check_mismatch.field-0.0 _ (omega arith)
    (c.in_err-check_mismatch.ensures.faults n) c.loop-node.invariant)

pub returns-in_err-check_mismatch-clause-memory : goal.returns-in_err-check_mismatch-clause-memory
returns-in_err-check_mismatch-clause-memory c =
    let p = err_from_is_err_and c.from_residual.result c.from_residual.ensures.1 in
    let f = mismatch_faults c.args.names.now c.args.nodes.now c.args.all.now c.in-Some.first in
    rw (p.1, p.2) (λ m. ap (λ fs. has_name (first fs)) (mismatches_are c.args.names.now c.args.nodes.now c.args.all.now c.in-Some.first c.in-Some.ensures)
    ∙ number_wants f c.loop-node.node (length c.args.all.now) _ (omega arith) (c.in_err-check_mismatch.ensures.memory m) c.loop-node.invariant)

pub loop-node-preserved : goal.loop-node-preserved
loop-node-preserved c =
    let f = mismatch_faults c.args.names.now c.args.nodes.now c.args.all.now c.in-Some.first in
    number_passes f c.loop-node.node (length c.args.all.now) (omega arith) c.in_ok-check_mismatch.ensures.faults ∙ c.loop-node.invariant
