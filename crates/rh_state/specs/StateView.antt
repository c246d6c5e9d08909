-- What a state means, as plain lists (Distributed Applications; ours).
use Rattle.std.specs.Prelude.{ℕ, List, Bool, true, false, ◌||◌, length, slice_get, slice_index, unwrap_or, Option, if◌then◌else◌}
use Rattle.rh_model.specs.ClusterView.{ClusterView}
use Rattle.rh_model.specs.declared.node.Node.{Node}
use Rattle.rh_model.specs.declared.node.App.{App}
use Rattle.rh_model.specs.declared.settings.Restart.{Restart}
use Rattle.rh_model.specs.declared.settings.Restart.TheVariants.{Temporary}
use Rattle.rh_state.specs.declared.status.Mode.{Mode}
use Rattle.rh_state.specs.declared.status.Mode.TheVariants as mode
use Rattle.rh_state.specs.declared.status.Kind.{Kind}
use Rattle.rh_state.specs.declared.status.Kind.TheVariants.{Normal}
use Rattle.rh_state.specs.declared.status.Standing.{Standing}
use Rattle.rh_state.specs.declared.status.Standing.TheVariants.{Quiet}
use Rattle.rh_state.specs.declared.status.Place.{Place}
use Rattle.rh_state.specs.declared.status.Place.TheVariants.{Off, InRunning, InWaiting}
use Rattle.rh_state.specs.declared.status.Timer.{Timer}
use Rattle.rh_state.specs.Tables.{row, cell}
use Rattle.rh_state.specs.Lists.{has_app, next_app}
use Rattle.rh_state.specs.Timers.{due_among}

pub record StateView : Type 0 where
  pub cluster : ClusterView
  -- in milliseconds
  pub time : ℕ
  -- one of each for each node, in node order
  pub modes : List Mode
  pub incarnations : List ℕ
  -- the applications that run at each node, and those that wait there, in their order
  pub running : List (List App)
  pub waiting : List (List App)
  -- tables: the restart type and the start kind that each pair was last given, and whether it may run
  pub restarts : List (List Restart)
  pub kinds : List (List Kind)
  pub allowed : List (List Bool)
  -- one for each application
  pub standings : List Standing
  -- due times and timers, in firing order
  pub timers : List (ℕ × Timer)

abbrev pub mode_of : StateView → Node → Mode
mode_of s n = unwrap_or (slice_get s.modes n.0) mode.Down

abbrev pub incarnation_of : StateView → Node → ℕ
incarnation_of s n = slice_index s.incarnations n.0

abbrev pub running_at : StateView → Node → List App
running_at s n = row s.running n.0

abbrev pub waiting_at : StateView → Node → List App
waiting_at s n = row s.waiting n.0

abbrev pub running_count : StateView → Node → ℕ
running_count s n = length (running_at s n)

abbrev pub runs_at : StateView → Node → App → Bool
runs_at s n a = has_app (running_at s n) a

abbrev pub waits_at : StateView → Node → App → Bool
waits_at s n a = has_app (waiting_at s n) a

-- a pair is started where it stands in a list of its node
abbrev pub is_started : StateView → Node → App → Bool
is_started s n a = runs_at s n a || waits_at s n a

abbrev pub place_of : StateView → Node → App → Place
place_of s n a = if runs_at s n a then InRunning else (if waits_at s n a then InWaiting else Off)

-- what stands behind a pair in its list
abbrev pub next_in_list : StateView → Node → App → Option App
next_in_list s n a = if runs_at s n a then next_app (running_at s n) a else next_app (waiting_at s n) a

abbrev pub restart_of : StateView → Node → App → Restart
restart_of s n a = cell s.restarts n.0 a.0 Temporary

abbrev pub kind_of : StateView → Node → App → Kind
kind_of s n a = cell s.kinds n.0 a.0 Normal

abbrev pub is_allowed : StateView → Node → App → Bool
is_allowed s n a = cell s.allowed n.0 a.0 false

abbrev pub standing_of : StateView → App → Standing
standing_of s a = unwrap_or (slice_get s.standings a.0) Quiet

abbrev pub due_of : StateView → Timer → Option ℕ
due_of s t = due_among t s.timers

-- the timer that fires next, with its due time
abbrev pub earliest : StateView → Option (ℕ × Timer)
earliest s = slice_get s.timers 0

-- a node is alive if it is waiting or up
abbrev pub is_alive : Mode → Bool
is_alive mode.Down = false
is_alive mode.Waiting = true
is_alive mode.Up = true

abbrev pub is_waiting : Mode → Bool
is_waiting mode.Down = false
is_waiting mode.Waiting = true
is_waiting mode.Up = false

abbrev pub is_up : Mode → Bool
is_up mode.Down = false
is_up mode.Waiting = false
is_up mode.Up = true
