use Rattle.std.proofs.Common.{◌≡◌, ◌&&◌, true, false}
use Rattle.rh_model.specs.declared.node.App.{App}
use Rattle.rh_model.specs.declared.node.Node.{Node}
use Rattle.rh_state.specs.Numbers.{same_node}
use Rattle.rh_state.specs.Shape.{IsAppOf}
use Rattle.rh_state.specs.Stored.{read}
use Rattle.rh_rules.specs.Placing.{is_operational}
use Rattle.rh_model.specs.Marks.{is_marked, touches}
use Rattle.rh_settle.specs.Boards.{is_among, matters}
use Rattle.rh_settle.proofs.board.look_again_at.Given as goal

-- those that are left are touched
abbrev pub invariant-apps : goal.invariant-apps
invariant-apps l = record {
  touched : (a : App) → IsAppOf (read l.state).cluster a → is_marked l.rest a ≡ true → touches (read l.state).cluster l.fn.moved a ≡ true;
  here : (a : App) → is_marked l.rest a ≡ false → IsAppOf (read l.state).cluster a → is_marked l.moving a ≡ true → touches (read l.state).cluster l.fn.moved a ≡ true
      → matters (read l.state) l.fresh a l.node ≡ true → is_among l.able a l.node ≡ is_operational (read l.state) a l.node;
  others : (a : App) (n : Node) → touches (read l.state).cluster l.fn.moved a && same_node n l.node ≡ false → is_among l.able a n ≡ is_among l.fn.able a n;
}

abbrev pub decreases-apps : goal.decreases-apps
decreases-apps l = l.rest.marks
