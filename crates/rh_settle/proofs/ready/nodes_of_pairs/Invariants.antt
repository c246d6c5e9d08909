use Rattle.std.proofs.Common.{◌≡◌, take, true, is_some}
use Rattle.rh_model.specs.declared.node.App.{App}
use Rattle.rh_model.specs.declared.node.Node.{Node}
use Rattle.rh_state.specs.StateView.{waits_at}
use Rattle.rh_state.specs.Stored.{read}
use Rattle.rh_base.specs.Lists.{head}
use Rattle.rh_place.specs.Sets.{has}
use Rattle.rh_rules.specs.Course.{is_fresh}
use Rattle.rh_rules.specs.Moves.{can_start, local_moves}
use Rattle.rh_settle.proofs.ready.nodes_of_pairs.Given as goal

-- at these nodes a local application can start, and each node at which one can start by a pair so far is among them
abbrev pub invariant-pairs : goal.invariant-pairs
invariant-pairs l = record {
  some : (n : Node) → has l.nodes n ≡ true → is_some (head (local_moves (read l.state) n)) ≡ true;
  asked : (n : Node) (a : App) → is_fresh (take l.pair-index l.pairs) n a ≡ true → waits_at (read l.state) n a ≡ true → can_start (read l.state) n a ≡ true
      → has l.nodes n ≡ true;
}
