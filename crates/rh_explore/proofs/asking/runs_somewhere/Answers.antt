use Rattle.std.proofs.Common.{sym, ap, ◌∙◌, arith}
use Rattle.rh_model.specs.ClusterView.{ClusterView, node_count, numbered}
use Rattle.rh_state.specs.Numbers.{nodes_of}
use Rattle.rh_state.specs.StateView.{runs_at}
use Rattle.rh_state.specs.Stored.{read}
use Rattle.rh_refusals.proofs.Anywhere.{any_at, none_more}
use Rattle.rh_explore.proofs.asking.runs_somewhere.Goals as goal

pub returns-then-runs_at : goal.returns-then-runs_at
unfolding nodes_of
returns-then-runs_at c =
    let s = read c.args.state.now in
    let count = c.node_count-count.ensures.count ∙ ap (λ (k : ClusterView). node_count k) c.cluster.ensures in
    sym (any_at (λ n. runs_at s n c.args.app) numbered 0 (node_count s.cluster) c.nodes.number (omega arith) (omega (arith, count, c.nodes-test.true))
    (sym c.runs_at.ensures ∙ c.if-runs_at.true))

pub nodes-preserved : goal.nodes-preserved
nodes-preserved c =
    let s = read c.args.state.now in
    none_more (λ n. runs_at s n c.args.app) numbered c.nodes.number c.nodes.invariant (sym c.runs_at.ensures ∙ c.if-runs_at.false)
