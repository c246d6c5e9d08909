use Rattle.std.proofs.Common.{◌≡◌, ◌<◌, ◌≤◌, ◌&&◌, true, false}
use Rattle.rh_model.specs.declared.node.Node.{Node}
use Rattle.rh_model.specs.ClusterView.{node_count}
use Rattle.rh_state.specs.Stored.{read}
use Rattle.rh_rules.specs.Placing.{is_operational}
use Rattle.rh_place.specs.Sets.{has}
use Rattle.rh_place.proofs.choosing.operational_among.Given as goal

abbrev pub invariant-nodes : goal.invariant-nodes
invariant-nodes l = record {
  seen : (n : Node) → n.0 < node_count (read l.state).cluster → has l.rest n ≡ false
      → has l.nodes n ≡ (has l.fn.set n && is_operational (read l.state) l.app n);
  left : (n : Node) → has l.rest n ≡ true → (has l.nodes n ≡ false) × (has l.fn.set n ≡ true);
  others : (n : Node) → node_count (read l.state).cluster ≤ n.0 → has l.nodes n ≡ false;
}

abbrev pub decreases-nodes : goal.decreases-nodes
decreases-nodes l = l.rest.bits
