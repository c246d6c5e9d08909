use Rattle.std.proofs.Common.{sym, ap, ◌∙◌, arith}
use Rattle.rh_model.specs.ClusterView.{ClusterView, node_count, numbered}
use Rattle.rh_state.specs.Numbers.{nodes_of}
use Rattle.rh_state.specs.StateView.{is_started}
use Rattle.rh_state.specs.Stored.{read}
use Rattle.rh_rules.specs.ByHand.{is_started_anywhere}
use Rattle.rh_refusals.proofs.Anywhere.{any_at, none_more}
use Rattle.rh_refusals.proofs.starting.is_started_anywhere.Goals as goal

pub returns-then-is_started_at : goal.returns-then-is_started_at
unfolding is_started_anywhere nodes_of
returns-then-is_started_at c =
    let s = read c.args.state.now in
    let count = c.node_count-count.ensures.count ∙ ap (λ (k : ClusterView). node_count k) c.cluster.ensures in
    sym (any_at (λ n. is_started s n c.args.app) numbered 0 (node_count s.cluster) c.nodes.number (omega arith) (omega (arith, count, c.nodes-test.true))
    (sym c.is_started_at.ensures ∙ c.if-is_started_at.true))

pub nodes-preserved : goal.nodes-preserved
nodes-preserved c =
    let s = read c.args.state.now in
    none_more (λ n. is_started s n c.args.app) numbered c.nodes.number c.nodes.invariant (sym c.is_started_at.ensures ∙ c.if-is_started_at.false)
