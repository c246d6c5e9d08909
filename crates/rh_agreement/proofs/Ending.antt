-- By the manual's rules nothing starts because a node ends, where nothing that ran there is started elsewhere at once.
use Rattle.std.proofs.Common.{◌≡◌, ◌≢◌, ◌<◌, ◌+◌, ◌++◌, ◌||◌, ◌&&◌, ℕ, Bool, true, false, cond, List, [], ◌∷◌, fold, slice_get, slice_set, unwrap_or, Option, Some, None, IsSome, refl, sym, ap, subst, ◌∙◌, inl, inr, arith}
use Rattle.std.specs.List.{list_all}
use Rattle.std.proofs.lemmas.Bool.{cases_eq, and_left, eqb-true, ne_eqb, false≢true, false_from_ne_true}
use Rattle.rh_model.specs.ClusterView.{ClusterView, group_of, mandatory_of, optional_of, sync_wait_of, is_platform, deps_of}
use Rattle.rh_model.specs.declared.node.App.{App}
use Rattle.rh_model.specs.declared.node.Node.{Node}
use Rattle.rh_model.specs.declared.settings.Dep.{Dep}
use Rattle.rh_model.specs.declared.settings.Dep.TheVariants.{Listed, Platform}
use Rattle.rh_model.specs.declared.settings.SyncWait.{SyncWait}
use Rattle.rh_model.specs.declared.settings.SyncWait.TheVariants.{Unset, After, Forever}
use Rattle.rh_state.specs.declared.status.Mode.{Mode}
use Rattle.rh_state.specs.declared.status.Mode.TheVariants as mode
use Rattle.rh_state.specs.declared.status.Standing.{Standing}
use Rattle.rh_state.specs.declared.status.Standing.TheVariants.{Quiet, Wanted, Running, Lost}
use Rattle.rh_state.specs.declared.status.Timer.TheVariants.{Failover}
use Rattle.rh_state.specs.Lists.{has_app}
use Rattle.rh_state.specs.Numbers.{same_node, nodes_of, apps_of}
use Rattle.rh_state.specs.Setters.{with_standing, with_timer}
use Rattle.rh_state.specs.Shape.{IsNodeOf, IsAppOf}
use Rattle.rh_state.specs.StateView.{StateView, mode_of, is_alive, is_up, is_waiting, running_at, waiting_at, waits_at, is_allowed, standing_of}
use Rattle.rh_state.specs.Tables.{cell}
use Rattle.rh_rules.specs.declared.notice.Move.TheVariants.{Local, Placement, Takeover}
use Rattle.rh_rules.specs.declared.notice.Notice.TheVariants as notice
use Rattle.rh_rules.specs.declared.event.Event.TheVariants as event
use Rattle.rh_rules.specs.declared.pick.Pick.{Pick}
use Rattle.rh_rules.specs.Course.{Course, course_of, is_local}
use Rattle.rh_rules.specs.NodesEnd.{timeout_of, cleared, lost_at, lost_from, lost_if_ran, all_lost, ended}
use Rattle.rh_rules.specs.NodesStart.{all_alive, has_others, is_ready, come_up_if_ready, come_up, ready_come_up}
use Rattle.rh_rules.specs.Placing.{dep_runs, deps_run, is_operational, picked}
use Rattle.rh_rules.specs.Settling.{NoneEnabled, nexts, settled, waits_told}
use Rattle.rh_rules.specs.Steps.{outcome, followed, next}
use Rattle.rh_trace.specs.Validity.{IsSound, IsValid}
use Rattle.rh_base.proofs.Truths.{both}
use Rattle.rh_trace.proofs.NextFirsts.{still_if_none_enabled}
use Rattle.rh_trace.proofs.NextMoves.{left_true, right_true, all_called}
use Rattle.rh_trace.proofs.Places.{at_set, at_set_here, at_set_there}
use Rattle.rh_settle.proofs.FieldLaws.{never_left_wanted}
use Rattle.rh_settle.proofs.Fuel as fuel
use Rattle.rh_settle.proofs.Searches.{none_of_none}
use Rattle.rh_events.proofs.EndLaws.{end_leaves_others}
use Rattle.rh_events.proofs.Fields.{ended_cluster, ended_modes}
use Rattle.rh_events.proofs.SoundEnding.{sound_ended}

-- ---- how applications stand behind it

-- permissions and the cluster are as they were, none is to run that wasn't, and none runs that didn't
record Loses (s t : StateView) : Type 0 where
  cluster : t.cluster ≡ s.cluster
  allowed : t.allowed ≡ s.allowed
  wanted : (a : App) (from : Option Node) → standing_of t a ≡ Wanted from → standing_of s a ≡ Wanted from
  runs : (a : App) (m : Node) → standing_of t a ≡ Running m → standing_of s a ≡ Running m

nothing : (s : StateView) → Loses s s
nothing s = record { cluster = refl; allowed = refl; wanted = λ a from is. is; runs = λ a m is. is }

both_lose : (s t u : StateView) → Loses s t → Loses t u → Loses s u
both_lose s t u p q = record {
  cluster = q.cluster ∙ p.cluster;
  allowed = q.allowed ∙ p.allowed;
  wanted = λ a from is. p.wanted a from (q.wanted a from is);
  runs = λ a m is. p.runs a m (q.runs a m is);
}

-- each application that runs there has a timeout
abbrev HaveTimeouts : Node → StateView → Type 0
HaveTimeouts n s = (a : App) → standing_of s a ≡ Running n → 0 < timeout_of s.cluster a

lost_wanted : (from : Option Node) (n : Node) → Lost n ≡ Wanted from → ⊥
lost_wanted from n is = cc

lost_runs : (m n : Node) → Lost n ≡ Running m → ⊥
lost_runs m n is = cc

-- it is lost
is_lost_there : (n : Node) (s : StateView) (a : App) (due : ℕ) → Loses s (with_timer (with_standing s a (Lost n)) due (Failover a))
is_lost_there n s a due = record {
  cluster = refl;
  allowed = refl;
  wanted = λ b from is. at_set s.standings a.0 b.0 (Lost n) Quiet (λ same. sym same ∙ is) (λ here new. absurd (lost_wanted from n (sym new ∙ is)));
  runs = λ b m is. at_set s.standings a.0 b.0 (Lost n) Quiet (λ same. sym same ∙ is) (λ here new. absurd (lost_runs m n (sym new ∙ is)));
}

same_named : (m n : Node) → same_node m n ≡ true → m ≡ n
same_named m n is = let same : m.0 ≡ n.0 = eqb-true m.0 n.0 is in λ i. record { 0 = same i }

one_loses : (n : Node) (s : StateView) (a : App) → HaveTimeouts n s → Loses s (lost_if_ran n s a)
unfolding lost_if_ran
one_loses n s a timed = by (standing_of s a) refl
  where
    at : (k : Node) → standing_of s a ≡ Running k → (b : Bool) → same_node k n ≡ b → Loses s (cond b (lost_at s n a) s)
    at k stands false is = nothing s
    at k stands true is =
        let later : 0 < timeout_of s.cluster a = timed a (stands ∙ ap Running (same_named k n is)) in
        subst (λ (b : Bool). Loses s (cond b (with_standing s a (Wanted (Some n)))
        (with_timer (with_standing s a (Lost n)) (s.time + timeout_of s.cluster a) (Failover a))))
        (sym (ne_eqb (timeout_of s.cluster a) 0 (λ none. omega (arith, none, later))))
        (is_lost_there n s a (s.time + timeout_of s.cluster a))

    by : (st : Standing) → standing_of s a ≡ st → Loses s (lost_from s n a st)
    by (Running k) is = at k is (same_node k n) refl
    by Quiet is = nothing s
    by (Wanted from) is = nothing s
    by (Lost k) is = nothing s

timed_still : (n : Node) (s t : StateView) → Loses s t → HaveTimeouts n s → HaveTimeouts n t
timed_still n s t loses timed a stands = subst (λ (c : ClusterView). 0 < timeout_of c a) (sym loses.cluster) (timed a (loses.runs a n stands))

each_loses : (n : Node) (apps : List App) (s : StateView) → HaveTimeouts n s → Loses s (fold (lost_if_ran n) s apps)
each_loses n [] s timed = nothing s
each_loses n (a ∷ apps) s timed =
    let next : StateView = lost_if_ran n s a in
    let one : Loses s next = one_loses n s a timed in
    both_lose s next (fold (lost_if_ran n) next apps) one (each_loses n apps next (timed_still n s next one timed))

-- ---- the node is down

abbrev pub course : StateView → Course
course s = course_of s [] []

abbrev pub over : StateView → Node → StateView
over s n = (ended (course s) n).state

module _ (s : StateView) (n : Node) (valid : IsValid s) (inside : IsNodeOf s.cluster n) (timed : HaveTimeouts n s) where
  sound : IsSound (over s n)
  sound = sound_ended (course s) n valid.sound inside

  cluster_so : (over s n).cluster ≡ s.cluster
  cluster_so = ended_cluster (course s) n

  stands_so : (a : App) (from : Option Node) → standing_of (over s n) a ≡ Wanted from → standing_of s a ≡ Wanted from
  unfolding ended all_lost cleared
  stands_so a from is = (each_loses n (apps_of s.cluster) (cleared s n) timed).wanted a from is

  allowed_so : (m : Node) (a : App) → m.0 ≢ n.0 → is_allowed (over s n) m a ≡ is_allowed s m a
  unfolding ended all_lost cleared
  allowed_so m a other =
      ap (λ (table : List (List Bool)). cell table m.0 a.0 false) (each_loses n (apps_of s.cluster) (cleared s n) timed).allowed
      ∙ ap (λ (flags : List Bool). unwrap_or (slice_get flags a.0) false) (at_set_there s.allowed n.0 m.0 _ [] other)

  pub down_so : (m : Node) → m.0 ≡ n.0 → mode_of (over s n) m ≡ mode.Down
  down_so m here =
      ap (λ (modes : List Mode). unwrap_or (slice_get modes m.0) mode.Down) (ended_modes (course s) n)
      ∙ ap (λ (k : ℕ). unwrap_or (slice_get (slice_set s.modes n.0 mode.Down) k) mode.Down) here
      ∙ at_set_here s.modes n.0 mode.Down mode.Down (omega (arith, inside, valid.sound.shaped.modes))

  -- the others are as they were
  module _ (m : Node) (other : m.0 ≢ n.0) where
    running_so : running_at (over s n) m ≡ running_at s m
    running_so = (end_leaves_others (course s) n m other).0

    waiting_so : waiting_at (over s n) m ≡ waiting_at s m
    waiting_so = (end_leaves_others (course s) n m other).1

    pub mode_so : mode_of (over s n) m ≡ mode_of s m
    mode_so = (end_leaves_others (course s) n m other).2

    dep_so : (d : Dep) → dep_runs (over s n) m d ≡ dep_runs s m d
    dep_so (Listed b) = ap (λ (apps : List App). has_app apps b) running_so
    dep_so (Platform p) = ap (λ (c : ClusterView). is_platform c m p) cluster_so

    deps_so : (a : App) → deps_run (over s n) m a ≡ deps_run s m a
    unfolding deps_run
    deps_so a = λ i. list_all (λ d. dep_so d i) (deps_of (cluster_so i) a)

    operational_so : (a : App) → is_operational (over s n) a m ≡ is_operational s a m
    unfolding is_operational
    operational_so a =
        λ i. is_up (mode_so i) && ((has_app (running_so i) a || has_app (waiting_so i) a) && (allowed_so m a other i && deps_so a i))

  -- ---- no node is ready

  -- who is alive was so before
  alive_before : (m : Node) → is_alive (mode_of (over s n) m) ≡ true → is_alive (mode_of s m) ≡ true
  alive_before m alive = elim (cases_eq m.0 n.0) [
    | inl here ↦ absurd (false≢true (sym (ap is_alive (down_so m here)) ∙ alive))
    | inr other ↦ sym (ap is_alive (mode_so m other)) ∙ alive
  ]

  all_before : (nodes : List Node) → list_all (λ (m : Node). is_alive (mode_of (over s n) m)) nodes ≡ true
      → list_all (λ (m : Node). is_alive (mode_of s m)) nodes ≡ true
  all_before [] all = refl
  all_before (m ∷ nodes) all =
      let here : is_alive (mode_of (over s n) m) ≡ true =
      left_true _ (list_all (λ (k : Node). is_alive (mode_of (over s n) k)) nodes) all in
      let rest : list_all (λ (k : Node). is_alive (mode_of (over s n) k)) nodes ≡ true =
      right_true (is_alive (mode_of (over s n) m)) _ all in
      λ i. alive_before m here i && all_before nodes rest i

  others_before : (m : Node) (wait : SyncWait) → has_others (over s n) m wait ≡ true → has_others s m wait ≡ true
  unfolding all_alive
  others_before m Unset all = refl
  others_before m (After ms) all =
      all_before (mandatory_of s.cluster m ++ optional_of s.cluster m)
      (subst (λ (c : ClusterView). list_all (λ (k : Node). is_alive (mode_of (over s n) k)) (mandatory_of c m ++ optional_of c m) ≡ true) cluster_so all)
  others_before m Forever all =
      all_before (mandatory_of s.cluster m ++ optional_of s.cluster m)
      (subst (λ (c : ClusterView). list_all (λ (k : Node). is_alive (mode_of (over s n) k)) (mandatory_of c m ++ optional_of c m) ≡ true) cluster_so all)

  ready_before : (m : Node) → m.0 ≢ n.0 → is_ready (over s n) m ≡ true → ⊥
  unfolding is_ready
  ready_before m other ready =
      let waits : is_waiting (mode_of s m) ≡ true = sym (ap is_waiting (mode_so m other)) ∙ left_true _ _ ready in
      let others : has_others (over s n) m (sync_wait_of s.cluster m) ≡ true =
      subst (λ (c : ClusterView). has_others (over s n) m (sync_wait_of c m) ≡ true) cluster_so
      (right_true (is_waiting (mode_of (over s n) m)) _ ready) in
      both (is_ready s m) (λ i. waits i && others_before m (sync_wait_of s.cluster m) others i) (valid.settled m)

  none_ready : (m : Node) → is_ready (over s n) m ≡ false
  unfolding is_ready
  none_ready m = elim (cases_eq m.0 n.0) [
    | inl here ↦ and_left _ _ (ap is_waiting (down_so m here))
    | inr other ↦ false_from_ne_true (is_ready (over s n) m) (ready_before m other)
  ]

  -- ---- nothing moves

  listed_there : (m : Node) (a : App) → waits_at (over s n) m a ≡ true → m.0 ≢ n.0
  listed_there m a waits here =
      let none : waiting_at (over s n) m ≡ [] = sound.idle.waiting m (ap is_up (down_so m here)) in
      false≢true (sym (ap (λ (apps : List App). has_app apps a) none) ∙ waits)

  runs_there : (m : Node) (a : App) → is_operational (over s n) a m ≡ true → m.0 ≢ n.0
  unfolding is_operational
  runs_there m a can here = false≢true (sym (ap is_up (down_so m here)) ∙ left_true _ _ can)

  none_moves : NoneEnabled (over s n) []
  none_moves (Local m a) is =
      let other : m.0 ≢ n.0 = listed_there m a is.2 in
      valid.still (Local m a) (
        subst (λ (c : ClusterView). IsNodeOf c m) cluster_so is.0,
        sym (ap (λ (c : ClusterView). is_local c a) cluster_so) ∙ is.1,
        sym (ap (λ (apps : List App). has_app apps a) (waiting_so m other)) ∙ is.2,
        sym (allowed_so m a other) ∙ is.3,
        sym (deps_so m other a) ∙ is.4,
      )
  none_moves (Placement a from m) is =
      let can : is_operational (over s n) a m ≡ true = is.2.passes in
      let other : m.0 ≢ n.0 = runs_there m a can in
      both (is_operational s a m) (sym (operational_so m other a) ∙ can)
      (never_left_wanted s a from valid.still (subst (λ (c : ClusterView). IsAppOf c a) cluster_so is.0) (stands_so a from is.1) m
      (subst (λ (c : ClusterView). IsSome (group_of c a m)) cluster_so is.2.listed))
  none_moves (Takeover a k m) is = absurd (false≢true (all_called (over s n) [] a k m is.2.passes).1)

  -- ---- so it is all

  none_comes_up : (nodes : List Node) → fold come_up_if_ready (ended (course s) n) nodes ≡ ended (course s) n
  unfolding come_up_if_ready
  none_comes_up [] = refl
  none_comes_up (m ∷ nodes) =
      ap (λ (b : Bool). fold come_up_if_ready (cond b (come_up (ended (course s) n) m) (ended (course s) n)) nodes) (none_ready m)
      ∙ none_comes_up nodes

  no_next : (pick : Pick) → picked pick (nexts (ended (course s) n)) ≡ None
  unfolding ended
  no_next pick = ap (picked pick) ((still_if_none_enabled (over s n) []).1 none_moves) ∙ sym (none_of_none pick)

  settles_so : (pick : Pick) → settled pick (ended (course s) n) ≡ ended (course s) n
  unfolding ended
  settles_so pick = ap waits_told (fuel.ended pick (ended (course s) n) (no_next pick))

  pub only_ends : (pick : Pick) → next s (event.Crash n) pick ≡ outcome (over s n) (notice.Ended n ∷ [])
  unfolding next followed ready_come_up ended
  only_ends pick =
      ap (λ (o : Course). outcome o.state o.notices)
      (ap (settled pick) (none_comes_up (nodes_of (over s n).cluster)) ∙ settles_so pick)
