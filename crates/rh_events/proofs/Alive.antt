-- Nodes that are alive, and timers that aren't set.
use Rattle.std.proofs.Common.{◌≡◌, ℕ, ◌≤◌, ◌&&◌, Bool, true, false, cond, not, List, [], ◌∷◌, ◌++◌, length, find, Some, unwrap_or, refl, ap, is_some, arith}
use Rattle.std.specs.Option.{option_map}
use Rattle.std.proofs.lemmas.Option.{slice_get_past}
use Rattle.rh_model.specs.ClusterView.{node_count}
use Rattle.rh_model.specs.declared.node.Node.{Node}
use Rattle.rh_state.specs.declared.status.Mode.TheVariants.{Down}
use Rattle.rh_state.specs.declared.status.Timer.{Timer}
use Rattle.rh_state.specs.Timers.{same_timer, without_timer, due_among}
use Rattle.rh_state.specs.StateView.{StateView, mode_of, is_alive}
use Rattle.rh_rules.specs.NodesStart.{all_alive}

-- a number that no node has is that of no node that is alive
pub unknown_dead : (s : StateView) (n : Node) → length s.modes ≡ node_count s.cluster → node_count s.cluster ≤ n.0 → is_alive (mode_of s n) ≡ false
unknown_dead s n modes above = ap (λ found. is_alive (unwrap_or found Down)) (slice_get_past s.modes n.0 (omega (arith, modes, above)))

pub all_alive_joined : (s : StateView) (ms ns : List Node) → all_alive s (ms ++ ns) ≡ (all_alive s ms && all_alive s ns)
unfolding all_alive
all_alive_joined s [] ns = refl
all_alive_joined s (m ∷ ms) ns = by (is_alive (mode_of s m)) (all_alive_joined s ms ns)
  where
    by : (b : Bool) → all_alive s (ms ++ ns) ≡ (all_alive s ms && all_alive s ns) → (b && all_alive s (ms ++ ns)) ≡ ((b && all_alive s ms) && all_alive s ns)
    by true later = later
    by false later = refl

-- a timer that isn't set is not among those that are
pub without_unset : (t : Timer) (entries : List (ℕ × Timer)) → is_some (due_among t entries) ≡ false → without_timer t entries ≡ entries
without_unset t [] h = refl
without_unset t (entry ∷ entries) h = by (same_timer t entry.1) h (without_unset t entries)
  where
    by : (b : Bool) → is_some (option_map (λ (e : ℕ × Timer). e.0) (cond b (Some entry) (find (λ e. same_timer t e.1) entries))) ≡ false
        → (is_some (due_among t entries) ≡ false → without_timer t entries ≡ entries)
        → cond (not b) (entry ∷ without_timer t entries) (without_timer t entries) ≡ entry ∷ entries
    by true h later = absurd (cc h)
    by false h later = ap (λ es. entry ∷ es) (later h)
