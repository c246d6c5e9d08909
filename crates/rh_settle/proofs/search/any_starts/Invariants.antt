use Rattle.std.proofs.Common.{◌≡◌, ◌&&◌, true, false}
use Rattle.rh_model.specs.declared.node.App.{App}
use Rattle.rh_state.specs.StateView.{waits_at}
use Rattle.rh_state.specs.Stored.{read}
use Rattle.rh_model.specs.Marks.{is_marked}
use Rattle.rh_rules.specs.Moves.{can_start}
use Rattle.rh_settle.proofs.search.any_starts.Given as goal

-- none of the local ones that were asked waits there and can start
abbrev pub invariant-apps : goal.invariant-apps
invariant-apps l = (a : App) → is_marked l.rest a ≡ false → is_marked l.local a ≡ true → (waits_at (read l.state) l.node a && can_start (read l.state) l.node a) ≡ false

abbrev pub decreases-apps : goal.decreases-apps
decreases-apps l = l.rest.marks
