-- The key of a state: a list of numbers by which states of one cluster that aren't alike are told apart (ours).
use Rattle.std.specs.Prelude.{ℕ, ◌+◌, ◌-◌, Bool, true, false, List, [], ◌∷◌, ◌++◌, Some, None}
use Rattle.std.specs.List.{flat_map}
use Rattle.rh_model.specs.declared.node.Node.{Node}
use Rattle.rh_model.specs.declared.node.App.{App}
use Rattle.rh_model.specs.declared.settings.Restart.{Restart}
use Rattle.rh_model.specs.declared.settings.Restart.TheVariants.{Permanent, Transient, Temporary}
use Rattle.rh_state.specs.declared.status.Mode.{Mode}
use Rattle.rh_state.specs.declared.status.Mode.TheVariants.{Down, Waiting, Up}
use Rattle.rh_state.specs.declared.status.Standing.{Standing}
use Rattle.rh_state.specs.declared.status.Standing.TheVariants as standing
use Rattle.rh_state.specs.declared.status.Timer.{Timer}
use Rattle.rh_state.specs.declared.status.Timer.TheVariants as timer
use Rattle.rh_state.specs.Numbers.{nodes_of, apps_of}
use Rattle.rh_state.specs.StateView.{StateView, mode_of, running_at, waiting_at, restart_of, is_allowed, standing_of}

-- ---- parts, each a fixed count of numbers

abbrev pub mode_number : Mode → ℕ
mode_number Down = 0
mode_number Waiting = 1
mode_number Up = 2

abbrev pub restart_number : Restart → ℕ
restart_number Permanent = 0
restart_number Transient = 1
restart_number Temporary = 2

abbrev pub permission_number : Bool → ℕ
permission_number true = 1
permission_number false = 0

abbrev pub standing_numbers : Standing → List ℕ
standing_numbers standing.Quiet = 0 ∷ 0 ∷ []
standing_numbers (standing.Wanted None) = 1 ∷ 0 ∷ []
standing_numbers (standing.Wanted (Some m)) = 2 ∷ m.0 ∷ []
standing_numbers (standing.Running m) = 3 ∷ m.0 ∷ []
standing_numbers (standing.Lost m) = 4 ∷ m.0 ∷ []

-- how long it has to go, and which it is
abbrev pub timer_numbers : ℕ → ℕ × Timer → List ℕ
timer_numbers now (due, timer.Sync n) = (due - now) ∷ 0 ∷ n.0 ∷ []
timer_numbers now (due, timer.Failover a) = (due - now) ∷ 1 ∷ a.0 ∷ []

-- ---- the whole

-- an application of a list, which ends with 0
abbrev pub app_number : App → List ℕ
app_number a = (a.0 + 1) ∷ []

-- what is said of a pair
unfoldable pub pair_numbers : StateView → Node → App → List ℕ
pair_numbers s n a = restart_number (restart_of s n a) ∷ permission_number (is_allowed s n a) ∷ []

-- of a node
unfoldable pub node_numbers : StateView → Node → List ℕ
node_numbers s n = mode_number (mode_of s n) ∷ flat_map app_number (running_at s n) ++ 0 ∷ flat_map app_number (waiting_at s n)
    ++ 0 ∷ flat_map (pair_numbers s n) (apps_of s.cluster)

-- of an application
unfoldable pub app_numbers : StateView → App → List ℕ
app_numbers s a = standing_numbers (standing_of s a)

-- all nodes, all applications, and the timers in firing order
unfoldable pub key_of : StateView → List ℕ
key_of s = flat_map (node_numbers s) (nodes_of s.cluster) ++ flat_map (app_numbers s) (apps_of s.cluster) ++ flat_map (timer_numbers s.time) s.timers
