use Rattle.std.proofs.Common.{◌≤◌, sym, ap, ◌∙◌, arith}
use Rattle.std.proofs.lemmas.Bool.Decides.{nat_tests}
use Rattle.rh_model.specs.ClusterView.{ClusterView, node_count}
use Rattle.rh_state.specs.Stored.{read}
use Rattle.rh_events.proofs.Alive.{unknown_dead}
use Rattle.rh_events.proofs.readiness.is_alive.Goals as goal

pub returns-then-node-node_count : goal.returns-then-node-node_count
returns-then-node-node_count c =
    let s = read c.args.state.now in
    let count_is = c.node_count.ensures.count ∙ ap (λ (k : ClusterView). node_count k) c.cluster.ensures in
    let above : node_count s.cluster ≤ c.args.node.0 = grind (arith, nat_tests, count_is, c.if-node-node_count.true) in
    sym (unknown_dead s c.args.node c.formed.ensures.shape.modes above)
