use Rattle.std.proofs.Common.{◌≡◌, [], List, true, false}
use Rattle.rh_model.specs.declared.node.App.{App}
use Rattle.rh_state.specs.Shape.{IsAppOf}
use Rattle.rh_state.specs.Stored.{read}
use Rattle.rh_rules.specs.declared.notice.Pair.{Pair}
use Rattle.rh_model.specs.Marks.{is_marked}
use Rattle.rh_settle.specs.Boards.{IsBoardOf}
use Rattle.rh_rules.specs.Moves.{takeovers}
use Rattle.rh_settle.proofs.search.next_takeover.Given as goal

-- the applications so far aren't taken over
abbrev pub invariant-apps : goal.invariant-apps
invariant-apps l = (fresh : List Pair) → IsBoardOf (read l.state) fresh l.board
    → (a : App) → is_marked l.rest a ≡ false → is_marked l.board.moving a ≡ true → IsAppOf (read l.state).cluster a → takeovers (read l.state) fresh a ≡ []

abbrev pub decreases-apps : goal.decreases-apps
decreases-apps l = l.rest.marks
