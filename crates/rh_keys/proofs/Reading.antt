-- Which nodes are ready, which applications move and which tests apply: none of it hangs on the time, the timers, the incarnations and
-- the start kinds.
use Rattle.std.proofs.Common.{◌≡◌, ◌&&◌, ℕ, Bool, List, [], ◌∷◌, map, Option, None, Some, not, find, if◌then◌else◌, refl, ap, ◌∙◌}
use Rattle.std.specs.List.{list_all}
use Rattle.std.specs.Option.{option_or}
use Rattle.rh_base.specs.Lists.{or_else, first_given}
use Rattle.rh_model.specs.ClusterView.{sync_wait_of, deps_of, group_of}
use Rattle.rh_model.specs.declared.node.Node.{Node}
use Rattle.rh_model.specs.declared.node.App.{App}
use Rattle.rh_model.specs.declared.settings.Dep.{Dep}
use Rattle.rh_model.specs.declared.settings.Dep.TheVariants.{Listed, Platform}
use Rattle.rh_state.specs.declared.status.Kind.{Kind}
use Rattle.rh_state.specs.declared.status.Standing.{Standing}
use Rattle.rh_state.specs.declared.status.Standing.TheVariants.{Wanted, Running}
use Rattle.rh_state.specs.declared.status.Timer.{Timer}
use Rattle.rh_state.specs.Numbers.{nodes_of, apps_of}
use Rattle.rh_state.specs.StateView.{StateView, mode_of, is_waiting, is_up, is_started, is_allowed, waiting_at, standing_of}
use Rattle.rh_model.specs.declared.settings.SyncWait.{SyncWait}
use Rattle.rh_model.specs.declared.settings.SyncWait.TheVariants.{Unset, After, Forever}
use Rattle.rh_rules.specs.declared.notice.Move.TheVariants.{Local, Placement, Takeover}
use Rattle.rh_rules.specs.declared.notice.Pair.{Pair}
use Rattle.rh_rules.specs.Course.{is_fresh, is_local}
use Rattle.rh_rules.specs.Placing.{dep_runs, deps_run, missing_dep, is_operational, best, candidates, start_kind}
use Rattle.rh_rules.specs.Moves.{can_start, local_moves, placements_from, placements, comes_before, calls_away, takeovers_from, takeovers}
use Rattle.rh_rules.specs.Settling.{next_moves}
use Rattle.rh_rules.specs.NodesStart.{all_alive, has_others, is_ready}
use Rattle.rh_rules.specs.Everywhere.{targets, first_missing, missing_at_targets}

module _ (s : StateView) (time : ℕ) (incarnations : List ℕ) (kinds : List (List Kind)) (timers : List (ℕ × Timer)) where
  -- a state that is equal but for these
  abbrev pub other : StateView
  other = record s { time = time; incarnations = incarnations; kinds = kinds; timers = timers }

  -- ---- nodes
  others_same : (n : Node) (wait : SyncWait) → has_others other n wait ≡ has_others s n wait
  unfolding all_alive
  others_same n Unset = refl
  others_same n (After ms) = refl
  others_same n Forever = refl

  pub ready_same : (n : Node) → is_ready other n ≡ is_ready s n
  unfolding is_ready
  ready_same n = ap (λ b. is_waiting (mode_of s n) && b) (others_same n (sync_wait_of s.cluster n))

  -- ---- where an application can run
  dep_same : (n : Node) (d : Dep) → dep_runs other n d ≡ dep_runs s n d
  dep_same n (Listed b) = refl
  dep_same n (Platform p) = refl

  deps_same : (n : Node) (a : App) → deps_run other n a ≡ deps_run s n a
  unfolding deps_run
  deps_same n a = λ i. list_all (λ d. dep_same n d i) (deps_of s.cluster a)

  pub missing_same : (n : Node) (a : App) → missing_dep other n a ≡ missing_dep s n a
  unfolding missing_dep
  missing_same n a = λ i. find (λ d. not (dep_same n d i)) (deps_of s.cluster a)

  operational_same : (a : App) (n : Node) → is_operational other a n ≡ is_operational s a n
  unfolding is_operational
  operational_same a n = ap (λ b. is_up (mode_of s n) && (is_started s n a && (is_allowed s n a && b))) (deps_same n a)

  best_same : (a : App) (test same : Node → Bool) → ((n : Node) → test n ≡ same n) → best other a test ≡ best s a same
  unfolding best
  best_same a test same each = λ i. best s a (λ n. each n i)

  candidates_same : (a : App) → candidates other a ≡ candidates s a
  unfolding candidates
  candidates_same a = best_same a (is_operational other a) (is_operational s a) (operational_same a)

  pub kind_same : (a : App) (from : Option Node) (n : Node) → start_kind other a from n ≡ start_kind s a from n
  kind_same a None n = refl
  kind_same a (Some m) n = refl

  -- ---- which moves come next
  start_same : (n : Node) (a : App) → can_start other n a ≡ can_start s n a
  unfolding can_start
  start_same n a = ap (λ b. is_local s.cluster a && (is_allowed s n a && b)) (deps_same n a)

  local_same : (n : Node) → local_moves other n ≡ local_moves s n
  unfolding local_moves
  local_same n = λ i. first_given (λ a. if start_same n a i then Local n a ∷ [] else []) (waiting_at s n)

  placements_same : (a : App) → placements other a ≡ placements s a
  unfolding placements
  placements_same a = by (standing_of s a)
    where
      by : (standing : Standing) → placements_from other a standing ≡ placements_from s a standing
      by (Wanted from) = ap (map (Placement a from)) (candidates_same a)
      by _ = refl

  calls_same : (fresh : List Pair) (a : App) (m n : Node) → calls_away other fresh a m n ≡ calls_away s fresh a m n
  unfolding calls_away
  calls_same fresh a m n = ap (λ b. comes_before (group_of s.cluster a n) (group_of s.cluster a m) && (is_fresh fresh n a && b)) (operational_same a n)

  takeovers_same : (fresh : List Pair) (a : App) → takeovers other fresh a ≡ takeovers s fresh a
  unfolding takeovers
  takeovers_same fresh a = by (standing_of s a)
    where
      by : (standing : Standing) → takeovers_from other fresh a standing ≡ takeovers_from s fresh a standing
      by (Running m) = ap (map (Takeover a m)) (best_same a (calls_away other fresh a m) (calls_away s fresh a m) (calls_same fresh a m))
      by _ = refl

  pub moves_same : (fresh : List Pair) → next_moves other fresh ≡ next_moves s fresh
  unfolding next_moves
  moves_same fresh = λ i. or_else (first_given (λ n. local_same n i) (nodes_of s.cluster))
      (or_else (first_given (λ a. placements_same a i) (apps_of s.cluster))
      (first_given (λ a. takeovers_same fresh a i) (apps_of s.cluster)))

  -- ---- what is missing at the nodes at which an application is still to be started
  first_same : (a : App) (ns : List Node) → first_missing other a ns ≡ first_missing s a ns
  first_same a [] = refl
  first_same a (n ∷ ns) = ap (λ d. option_or d (first_missing other a ns)) (missing_same n a)
      ∙ ap (option_or (missing_dep s n a)) (first_same a ns)

  pub missing_at_same : (a : App) → missing_at_targets other a ≡ missing_at_targets s a
  unfolding missing_at_targets targets
  missing_at_same a = first_same a (targets s a)
