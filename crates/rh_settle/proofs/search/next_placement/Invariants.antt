use Rattle.std.proofs.Common.{◌≡◌, [], true, false}
use Rattle.rh_model.specs.declared.node.App.{App}
use Rattle.rh_state.specs.Shape.{IsAppOf}
use Rattle.rh_rules.specs.Moves.{placements}
use Rattle.rh_state.specs.Stored.{read}
use Rattle.rh_model.specs.Marks.{is_marked}
use Rattle.rh_settle.proofs.search.next_placement.Given as goal

-- the applications so far aren't placed
abbrev pub invariant-apps : goal.invariant-apps
invariant-apps l = (a : App) → is_marked l.rest a ≡ false → is_marked l.board.moving a ≡ true → IsAppOf (read l.state).cluster a → placements (read l.state) a ≡ []

abbrev pub decreases-apps : goal.decreases-apps
decreases-apps l = l.rest.marks
