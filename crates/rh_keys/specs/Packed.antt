-- The numbers that are kept of a state: those of its key, but one for each pair in place of two (ours).
use Rattle.std.specs.Prelude.{ℕ, ◌+◌, ◌*◌, Bool, List, [], ◌∷◌, ◌++◌}
use Rattle.std.specs.List.{flat_map}
use Rattle.rh_model.specs.declared.node.Node.{Node}
use Rattle.rh_model.specs.declared.node.App.{App}
use Rattle.rh_model.specs.declared.settings.Restart.{Restart}
use Rattle.rh_state.specs.Numbers.{nodes_of, apps_of}
use Rattle.rh_state.specs.StateView.{StateView, mode_of, running_at, waiting_at, restart_of, is_allowed}
use Rattle.rh_keys.specs.Keys.{mode_number, restart_number, permission_number, timer_numbers, app_number, app_numbers}

-- a restart type and a permission in one number: there are three and two of them
abbrev pub pair_number : Restart → Bool → ℕ
pair_number r p = restart_number r + 4 * permission_number p

-- what is said of a pair
unfoldable pub packed_pair : StateView → Node → App → List ℕ
packed_pair s n a = pair_number (restart_of s n a) (is_allowed s n a) ∷ []

-- of a node
unfoldable pub packed_node : StateView → Node → List ℕ
packed_node s n = mode_number (mode_of s n) ∷ flat_map app_number (running_at s n) ++ 0 ∷ flat_map app_number (waiting_at s n)
    ++ 0 ∷ flat_map (packed_pair s n) (apps_of s.cluster)

-- all nodes, all applications, and the timers in firing order
unfoldable pub packed_key : StateView → List ℕ
packed_key s = flat_map (packed_node s) (nodes_of s.cluster) ++ flat_map (app_numbers s) (apps_of s.cluster) ++ flat_map (timer_numbers s.time) s.timers
