-- By the manual's rules nothing follows where no more can run than before: no node comes up, and no application moves.
use Rattle.std.proofs.Common.{◌≡◌, ◌++◌, ◌||◌, ◌&&◌, Bool, true, false, cond, List, [], ◌∷◌, fold, slice_get, unwrap_or, None, IsSome, refl, sym, ap, subst, ◌∙◌}
use Rattle.std.specs.List.{list_all}
use Rattle.std.proofs.lemmas.Bool.{and_parts, false≢true}
use Rattle.rh_model.specs.ClusterView.{ClusterView, group_of, mandatory_of, optional_of, sync_wait_of, is_platform, deps_of}
use Rattle.rh_model.specs.declared.node.App.{App}
use Rattle.rh_model.specs.declared.node.Node.{Node}
use Rattle.rh_model.specs.declared.settings.Dep.{Dep}
use Rattle.rh_model.specs.declared.settings.Dep.TheVariants.{Listed, Platform}
use Rattle.rh_model.specs.declared.settings.SyncWait.{SyncWait}
use Rattle.rh_model.specs.declared.settings.SyncWait.TheVariants.{Unset, After, Forever}
use Rattle.rh_state.specs.declared.status.Mode.{Mode}
use Rattle.rh_state.specs.declared.status.Mode.TheVariants as mode
use Rattle.rh_state.specs.declared.status.Standing.{Standing}
use Rattle.rh_state.specs.declared.status.Standing.TheVariants.{Quiet}
use Rattle.rh_state.specs.Numbers.{nodes_of}
use Rattle.rh_state.specs.Shape.{IsNodeOf, IsAppOf}
use Rattle.rh_state.specs.StateView.{StateView, is_alive, is_up, is_waiting, mode_of, runs_at, waits_at, is_started, is_allowed}
use Rattle.rh_rules.specs.declared.notice.Move.TheVariants.{Local, Placement, Takeover}
use Rattle.rh_rules.specs.declared.notice.Notice.{Notice}
use Rattle.rh_rules.specs.declared.notice.Pair.{Pair}
use Rattle.rh_rules.specs.declared.pick.Pick.{Pick}
use Rattle.rh_rules.specs.Course.{Course, course_of, is_local}
use Rattle.rh_rules.specs.NodesStart.{all_alive, has_others, is_ready, come_up_if_ready, come_up, ready_come_up}
use Rattle.rh_rules.specs.Placing.{dep_runs, deps_run, is_operational, picked}
use Rattle.rh_rules.specs.Settling.{NoneEnabled, nexts, settled, waits_told}
use Rattle.rh_trace.specs.Validity.{IsValid}
use Rattle.rh_base.proofs.Truths.{both, or_left, or_right}
use Rattle.rh_trace.proofs.NextFirsts.{still_if_none_enabled}
use Rattle.rh_trace.proofs.NextMoves.{left_true, right_true, all_called}
use Rattle.rh_settle.proofs.FieldLaws.{never_left_wanted}
use Rattle.rh_settle.proofs.Fuel as fuel
use Rattle.rh_settle.proofs.Searches.{none_of_none}
use Rattle.rh_step.proofs.StartsFewer.{StartsFewer}

-- ---- no node is ready where none was, and nodes are as they were

module _ (s t : StateView) (cluster_so : t.cluster ≡ s.cluster) (modes : t.modes ≡ s.modes)
    (settled_so : (n : Node) → is_ready s n ≡ false) where
  others_so : (n : Node) (wait : SyncWait) → has_others t n wait ≡ has_others s n wait
  unfolding all_alive
  others_so n Unset = refl
  others_so n (After ms) =
      λ i. list_all (λ (m : Node). is_alive (unwrap_or (slice_get (modes i) m.0) mode.Down))
      (mandatory_of (cluster_so i) n ++ optional_of (cluster_so i) n)
  others_so n Forever =
      λ i. list_all (λ (m : Node). is_alive (unwrap_or (slice_get (modes i) m.0) mode.Down))
      (mandatory_of (cluster_so i) n ++ optional_of (cluster_so i) n)

  pub none_ready : (n : Node) → is_ready t n ≡ false
  unfolding is_ready
  none_ready n =
      ap (λ (c : ClusterView). is_waiting (mode_of t n) && has_others t n (sync_wait_of c n)) cluster_so
      ∙ (λ i. is_waiting (unwrap_or (slice_get (modes i) n.0) mode.Down) && others_so n (sync_wait_of s.cluster n) i)
      ∙ settled_so n

  none_of : (notices : List Notice) (marked : List Pair) (nodes : List Node)
      → fold come_up_if_ready (course_of t notices marked) nodes ≡ course_of t notices marked
  unfolding come_up_if_ready
  none_of notices marked [] = refl
  none_of notices marked (n ∷ nodes) =
      let course : Course = course_of t notices marked in
      ap (λ (b : Bool). fold come_up_if_ready (cond b (come_up course n) course) nodes) (none_ready n) ∙ none_of notices marked nodes

  pub none_comes_up : (notices : List Notice) (marked : List Pair) → ready_come_up (course_of t notices marked) ≡ course_of t notices marked
  unfolding ready_come_up
  none_comes_up notices marked = none_of notices marked (nodes_of t.cluster)

-- ---- no more can run

-- No more local ones can start, no more may run, and nodes and standings are as they were.
pub record Lessens (s t : StateView) : Type 0 where
  pub fewer : StartsFewer s t
  pub allowed : (n : Node) (a : App) → is_allowed t n a ≡ true → is_allowed s n a ≡ true
  pub modes : t.modes ≡ s.modes
  pub standings : t.standings ≡ s.standings

module _ (s t : StateView) (valid : IsValid s) (lessens : Lessens s t) where
  cluster_so : t.cluster ≡ s.cluster
  cluster_so = lessens.fewer.cluster

  -- ---- where an application can run it could

  dep_ran : (n : Node) (d : Dep) → dep_runs t n d ≡ true → dep_runs s n d ≡ true
  dep_ran n (Listed b) is = lessens.fewer.ran n b is
  dep_ran n (Platform p) is = ap (λ (c : ClusterView). is_platform c n p) (sym cluster_so) ∙ is

  each_ran : (n : Node) (deps : List Dep) → list_all (dep_runs t n) deps ≡ true → list_all (dep_runs s n) deps ≡ true
  each_ran n [] is = refl
  each_ran n (d ∷ deps) is = let parts = and_parts (dep_runs t n d) _ is in λ i. dep_ran n d parts.0 i && each_ran n deps parts.1 i

  deps_ran : (n : Node) (a : App) → deps_run t n a ≡ true → deps_run s n a ≡ true
  unfolding deps_run
  deps_ran n a is = each_ran n (deps_of s.cluster a) (ap (λ (c : ClusterView). list_all (dep_runs t n) (deps_of c a)) (sym cluster_so) ∙ is)

  started_by : (n : Node) (a : App) (b : Bool) → runs_at t n a ≡ b → (b || waits_at t n a) ≡ true → is_allowed t n a ≡ true
      → is_started s n a ≡ true
  started_by n a true runs is may = or_left (runs_at s n a) (waits_at s n a) (lessens.fewer.ran n a runs)
  started_by n a false runs is may = or_right (runs_at s n a) (waits_at s n a) (lessens.fewer.waited n a is may).0

  pub could_run : (a : App) (n : Node) → is_operational t a n ≡ true → is_operational s a n ≡ true
  unfolding is_operational
  could_run a n is =
      let up : is_up (mode_of t n) ≡ true = left_true _ _ is in
      let rest = right_true (is_up (mode_of t n)) _ is in
      let more = right_true (is_started t n a) _ rest in
      let may : is_allowed t n a ≡ true = left_true _ _ more in
      let started : is_started s n a ≡ true = started_by n a (runs_at t n a) refl (left_true _ _ rest) may in
      λ i. (sym (ap (λ (modes : List Mode). is_up (unwrap_or (slice_get modes n.0) mode.Down)) lessens.modes) ∙ up) i
      && (started i && (lessens.allowed n a may i && deps_ran n a (right_true (is_allowed t n a) _ more) i))

  -- ---- nothing moves

  pub none_moves : NoneEnabled t []
  none_moves (Local n a) is =
      let was = lessens.fewer.waited n a is.2 is.3 in
      valid.still (Local n a) (
        subst (λ (c : ClusterView). IsNodeOf c n) cluster_so is.0,
        sym (ap (λ (c : ClusterView). is_local c a) cluster_so) ∙ is.1,
        was.0,
        was.1,
        deps_ran n a is.4,
      )
  none_moves (Placement a from n) is =
      both (is_operational s a n) (could_run a n is.2.passes)
      (never_left_wanted s a from valid.still (subst (λ (c : ClusterView). IsAppOf c a) cluster_so is.0)
      (sym (ap (λ (stands : List Standing). unwrap_or (slice_get stands a.0) Quiet) lessens.standings) ∙ is.1) n
      (subst (λ (c : ClusterView). IsSome (group_of c a n)) cluster_so is.2.listed))
  none_moves (Takeover a m n) is = absurd (false≢true (all_called t [] a m n is.2.passes).1)

  -- ---- so it is all

  module _ (notices : List Notice) where
    abbrev course : Course
    course = course_of t notices []

    no_next : (pick : Pick) → picked pick (nexts course) ≡ None
    no_next pick = ap (picked pick) ((still_if_none_enabled t []).1 none_moves) ∙ sym (none_of_none pick)

    pub nothing_follows : (pick : Pick) → settled pick (ready_come_up course) ≡ course
    nothing_follows pick =
        ap (settled pick) (none_comes_up s t cluster_so lessens.modes valid.settled notices [])
        ∙ ap waits_told (fuel.ended pick course (no_next pick))
