use Rattle.std.proofs.Common.{◌≡◌, ◌<◌, ◌||◌, take, true}
use Rattle.rh_model.specs.declared.limits.TheConstants.{MAX_APPS}
use Rattle.rh_model.specs.declared.node.App.{App}
use Rattle.rh_model.specs.declared.node.Node.{Node}
use Rattle.rh_place.specs.declared.node_set.TheConstants.NodeSet.{LIMIT}
use Rattle.rh_model.specs.Marks.{is_marked}
use Rattle.rh_settle.specs.Boards.{is_among, Covers}
use Rattle.rh_rules.specs.Course.{is_fresh}
use Rattle.rh_settle.proofs.board.add_fresh.Given as goal

abbrev pub invariant-pairs : goal.invariant-pairs
invariant-pairs l = record {
  pairs : (a : App) (n : Node) → a.0 < MAX_APPS → n.0 < LIMIT → is_among l.sets a n ≡ (is_among l.fn.sets a n || is_fresh (take l.pair-index l.pairs) n a);
  covered : Covers l.marks l.sets;
  kept : (a : App) → is_marked l.fn.marks a ≡ true → is_marked l.marks a ≡ true;
}
