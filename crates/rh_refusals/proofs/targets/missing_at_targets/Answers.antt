use Rattle.std.proofs.Common.{is_some, sym, ap, ◌∙◌, arith}
use Rattle.rh_model.specs.ClusterView.{ClusterView, node_count}
use Rattle.rh_state.specs.Stored.{read}
use Rattle.rh_refusals.proofs.FirstMissing.{found_missing, nothing_missing}
use Rattle.rh_refusals.proofs.targets.missing_at_targets.Goals as goal

pub returns-then-is_some : goal.returns-then-is_some
returns-then-is_some c =
    let count = c.node_count-count.ensures.count ∙ ap (λ (k : ClusterView). node_count k) c.cluster.ensures in
    c.missing_if_target-missing.ensures
    ∙ found_missing (read c.args.state.now) c.args.app c.nodes.number c.node_count-count.result count (omega (arith, c.nodes-test.true)) c.nodes.invariant
    (sym (ap is_some c.missing_if_target-missing.ensures) ∙ sym c.is_some.ensures ∙ c.if-is_some.true)

pub returns : goal.returns
returns c =
    let count = c.node_count-count.ensures.count ∙ ap (λ (k : ClusterView). node_count k) c.cluster.ensures in
    nothing_missing (read c.args.state.now) c.args.app c.nodes.number c.node_count-count.result count (omega (arith, c.nodes-test.false)) c.nodes.invariant
