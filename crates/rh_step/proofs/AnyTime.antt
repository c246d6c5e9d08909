-- Which nodes are ready, and which applications move, doesn't hang on the time.
use Rattle.std.proofs.Common.{◌≡◌, ◌&&◌, ◌++◌, ℕ, Bool, List, [], ◌∷◌, map, slice_get, unwrap_or, if◌then◌else◌, refl, ap, ◌∙◌}
use Rattle.std.specs.List.{list_all}
use Rattle.rh_model.specs.ClusterView.{mandatory_of, optional_of, sync_wait_of, deps_of, group_of}
use Rattle.rh_model.specs.declared.node.Node.{Node}
use Rattle.rh_model.specs.declared.node.App.{App}
use Rattle.rh_model.specs.declared.settings.Dep.{Dep}
use Rattle.rh_model.specs.declared.settings.Dep.TheVariants.{Listed, Platform}
use Rattle.rh_model.specs.declared.settings.SyncWait.{SyncWait}
use Rattle.rh_model.specs.declared.settings.SyncWait.TheVariants.{Unset, After, Forever}
use Rattle.rh_state.specs.declared.status.Mode.TheVariants.{Down}
use Rattle.rh_state.specs.declared.status.Standing.{Standing}
use Rattle.rh_state.specs.declared.status.Standing.TheVariants.{Wanted, Running}
use Rattle.rh_state.specs.Numbers.{nodes_of, apps_of}
use Rattle.rh_state.specs.StateView.{StateView, mode_of, is_alive, is_up, is_waiting, is_started, is_allowed, waiting_at, standing_of}
use Rattle.rh_state.specs.Setters.{with_time}
use Rattle.rh_base.specs.Lists.{or_else, first_given}
use Rattle.rh_rules.specs.Placing.{dep_runs, deps_run, is_operational, best, candidates}
use Rattle.rh_rules.specs.declared.notice.Move.TheVariants.{Local, Placement, Takeover}
use Rattle.rh_rules.specs.declared.notice.Pair.{Pair}
use Rattle.rh_rules.specs.Course.{is_fresh, is_local}
use Rattle.rh_rules.specs.Moves.{can_start, local_moves, placements_from, placements, comes_before, calls_away, takeovers_from, takeovers}
use Rattle.rh_rules.specs.Settling.{next_moves}
use Rattle.rh_rules.specs.NodesStart.{all_alive, has_others, is_ready}

-- whether a node is ready hangs on the cluster and the modes alone
others_alike : (s t : StateView) (n : Node) (wait : SyncWait) → t.cluster ≡ s.cluster → t.modes ≡ s.modes → has_others t n wait ≡ has_others s n wait
unfolding all_alive
others_alike s t n Unset c m = refl
others_alike s t n (After ms) c m = λ i. list_all (λ k. is_alive (unwrap_or (slice_get (m i) k.0) Down)) (mandatory_of (c i) n ++ optional_of (c i) n)
others_alike s t n Forever c m = λ i. list_all (λ k. is_alive (unwrap_or (slice_get (m i) k.0) Down)) (mandatory_of (c i) n ++ optional_of (c i) n)

pub ready_alike : (s t : StateView) (n : Node) → t.cluster ≡ s.cluster → t.modes ≡ s.modes → is_ready t n ≡ is_ready s n
unfolding is_ready
ready_alike s t n c m =
    ap (λ b. is_waiting (mode_of t n) && b) (others_alike s t n (sync_wait_of t.cluster n) c m)
    ∙ (λ i. is_waiting (unwrap_or (slice_get (m i) n.0) Down) && has_others s n (sync_wait_of (c i) n))

-- at any time the same moves come next
module _ (s : StateView) (time : ℕ) where
  abbrev moved_on : StateView
  moved_on = with_time s time

  dep_alike : (n : Node) (d : Dep) → dep_runs moved_on n d ≡ dep_runs s n d
  dep_alike n (Listed b) = refl
  dep_alike n (Platform p) = refl

  deps_alike : (n : Node) (a : App) → deps_run moved_on n a ≡ deps_run s n a
  unfolding deps_run
  deps_alike n a = λ i. list_all (λ d. dep_alike n d i) (deps_of s.cluster a)

  start_alike : (n : Node) (a : App) → can_start moved_on n a ≡ can_start s n a
  unfolding can_start
  start_alike n a = ap (λ b. is_local s.cluster a && (is_allowed s n a && b)) (deps_alike n a)

  local_alike : (n : Node) → local_moves moved_on n ≡ local_moves s n
  unfolding local_moves
  local_alike n = λ i. first_given (λ a. if start_alike n a i then Local n a ∷ [] else []) (waiting_at s n)

  operational_alike : (a : App) (n : Node) → is_operational moved_on a n ≡ is_operational s a n
  unfolding is_operational
  operational_alike a n = ap (λ b. is_up (mode_of s n) && (is_started s n a && (is_allowed s n a && b))) (deps_alike n a)

  best_alike : (a : App) (test other : Node → Bool) → ((n : Node) → test n ≡ other n) → best moved_on a test ≡ best s a other
  unfolding best
  best_alike a test other each = λ i. best s a (λ n. each n i)

  candidates_alike : (a : App) → candidates moved_on a ≡ candidates s a
  unfolding candidates
  candidates_alike a = best_alike a (is_operational moved_on a) (is_operational s a) (operational_alike a)

  placements_alike : (a : App) → placements moved_on a ≡ placements s a
  unfolding placements
  placements_alike a = by (standing_of s a)
    where
      by : (standing : Standing) → placements_from moved_on a standing ≡ placements_from s a standing
      by (Wanted from) = ap (map (Placement a from)) (candidates_alike a)
      by _ = refl

  calls_alike : (fresh : List Pair) (a : App) (m n : Node) → calls_away moved_on fresh a m n ≡ calls_away s fresh a m n
  unfolding calls_away
  calls_alike fresh a m n = ap (λ b. comes_before (group_of s.cluster a n) (group_of s.cluster a m) && (is_fresh fresh n a && b)) (operational_alike a n)

  takeovers_alike : (fresh : List Pair) (a : App) → takeovers moved_on fresh a ≡ takeovers s fresh a
  unfolding takeovers
  takeovers_alike fresh a = by (standing_of s a)
    where
      by : (standing : Standing) → takeovers_from moved_on fresh a standing ≡ takeovers_from s fresh a standing
      by (Running m) = ap (map (Takeover a m)) (best_alike a (calls_away moved_on fresh a m) (calls_away s fresh a m) (calls_alike fresh a m))
      by _ = refl

  pub moves_alike : (fresh : List Pair) → next_moves moved_on fresh ≡ next_moves s fresh
  unfolding next_moves
  moves_alike fresh = λ i. or_else (first_given (λ n. local_alike n i) (nodes_of s.cluster))
      (or_else (first_given (λ a. placements_alike a i) (apps_of s.cluster))
      (first_given (λ a. takeovers_alike fresh a i) (apps_of s.cluster)))
