use Rattle.std.proofs.Common.{◌≡◌, true, false}
use Rattle.rh_model.specs.declared.node.App.{App}
use Rattle.rh_model.specs.declared.node.Node.{Node}
use Rattle.rh_state.specs.Stored.{read}
use Rattle.rh_rules.specs.Placing.{is_operational}
use Rattle.rh_model.specs.Marks.{is_marked}
use Rattle.rh_settle.specs.Boards.{is_among, is_asked}
use Rattle.rh_settle.proofs.board.find_able.Given as goal

abbrev pub invariant-apps : goal.invariant-apps
invariant-apps l = (n : Node) (a : App) → is_marked l.rest a ≡ false → is_marked l.moving a ≡ true → is_asked (read l.state) l.fresh a n ≡ true
    → is_among l.able a n ≡ is_operational (read l.state) a n

abbrev pub decreases-apps : goal.decreases-apps
decreases-apps l = l.rest.marks
