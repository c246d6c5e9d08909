-- A state in which one part is another (ours).
use Rattle.std.specs.Prelude.{ℕ, [], ◌∷◌, ◌++◌, Bool, slice_set}
use Rattle.rh_model.specs.declared.node.Node.{Node}
use Rattle.rh_model.specs.declared.node.App.{App}
use Rattle.rh_model.specs.declared.settings.Restart.{Restart}
use Rattle.rh_wheel.specs.Firing.{behind}
use Rattle.rh_state.specs.declared.status.Mode.{Mode}
use Rattle.rh_state.specs.declared.status.Kind.{Kind}
use Rattle.rh_state.specs.declared.status.Standing.{Standing}
use Rattle.rh_state.specs.declared.status.Timer.{Timer}
use Rattle.rh_state.specs.Tables.{with_cell}
use Rattle.rh_state.specs.Lists.{without_app}
use Rattle.rh_state.specs.Timers.{without_timer}
use Rattle.rh_state.specs.StateView.{StateView, running_at, waiting_at}

abbrev pub with_time : StateView → ℕ → StateView
with_time s time = record s { time = time }

abbrev pub with_mode : StateView → Node → Mode → StateView
with_mode s n mode = record s { modes = slice_set s.modes n.0 mode }

abbrev pub with_incarnation : StateView → Node → ℕ → StateView
with_incarnation s n incarnation = record s { incarnations = slice_set s.incarnations n.0 incarnation }

abbrev pub with_restart : StateView → Node → App → Restart → StateView
with_restart s n a restart = record s { restarts = with_cell s.restarts n.0 a.0 restart }

abbrev pub with_kind : StateView → Node → App → Kind → StateView
with_kind s n a kind = record s { kinds = with_cell s.kinds n.0 a.0 kind }

abbrev pub with_allowed : StateView → Node → App → Bool → StateView
with_allowed s n a allow = record s { allowed = with_cell s.allowed n.0 a.0 allow }

abbrev pub with_standing : StateView → App → Standing → StateView
with_standing s a standing = record s { standings = slice_set s.standings a.0 standing }

-- the pair goes to the end of a list
abbrev pub with_running : StateView → Node → App → StateView
with_running s n a = record s { running = slice_set s.running n.0 (running_at s n ++ a ∷ []) }

abbrev pub with_waiting : StateView → Node → App → StateView
with_waiting s n a = record s { waiting = slice_set s.waiting n.0 (waiting_at s n ++ a ∷ []) }

-- the pair leaves its list
abbrev pub unlisted : StateView → Node → App → StateView
unlisted s n a = record s {
  running = slice_set s.running n.0 (without_app (running_at s n) a);
  waiting = slice_set s.waiting n.0 (without_app (waiting_at s n) a);
}

-- a timer is set behind the last one that isn't due later
abbrev pub with_timer : StateView → ℕ → Timer → StateView
with_timer s due t = record s { timers = behind (due, t) s.timers }

-- a timer is taken out
abbrev pub without_due : StateView → Timer → StateView
without_due s t = record s { timers = without_timer t s.timers }
