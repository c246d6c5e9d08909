use Rattle.std.proofs.Common.{◌≡◌, ◌<◌, ◌≤◌, false, is_some}
use Rattle.rh_model.specs.declared.node.Node.{Node}
use Rattle.rh_state.specs.Stored.{read}
use Rattle.rh_base.specs.Lists.{head}
use Rattle.rh_place.specs.Sets.{has}
use Rattle.rh_rules.specs.Moves.{local_moves}
use Rattle.rh_settle.proofs.ready.local_nodes.Given as goal

abbrev pub invariant-nodes : goal.invariant-nodes
invariant-nodes l = record {
  below : (n : Node) → n.0 < l.number → has l.nodes n ≡ is_some (head (local_moves (read l.state) n));
  above : (n : Node) → l.number ≤ n.0 → has l.nodes n ≡ false;
}
