-- By the manual's rules a distributed application that waits at a node, and that no node can run, starts there where it is permitted, if
-- what it needs runs there; and that is all, where nobody waits there for it.
use Rattle.std.proofs.Common.{◌≡◌, ◌≢◌, ◌<◌, ◌≤◌, ◌==◌, ◌++◌, ◌||◌, ◌&&◌, ℕ, zero, suc, Bool, true, false, cond, is_some, List, [], ◌∷◌, length, slice_get, slice_set, unwrap_or, Option, None, Some, IsSome, refl, sym, ap, subst, ◌∙◌, inl, inr, arith}
use Rattle.std.specs.List.{list_all, list_any}
use Rattle.std.specs.Prelude.{All}
use Rattle.std.proofs.lemmas.Bool.{and_parts, cases_eq, false≢true, true≢false}
use Rattle.std.proofs.lemmas.Bool.Decides.{nat_tests}
use Rattle.rh_base.proofs.Truths.{both, or_right, same_number, same_refl}
use Rattle.rh_model.specs.ClusterView.{app_count, node_count, deps_of, group_of, numbered, app_numbered}
use Rattle.rh_model.specs.declared.node.App.{App}
use Rattle.rh_model.specs.declared.node.Node.{Node}
use Rattle.rh_model.specs.declared.settings.Dep.{Dep}
use Rattle.rh_model.specs.declared.settings.Dep.TheVariants.{Listed, Platform}
use Rattle.rh_rules.specs.declared.event.Event.TheVariants as event
use Rattle.rh_rules.specs.declared.notice.Move.{Move}
use Rattle.rh_rules.specs.declared.notice.Move.TheVariants.{Local, Placement, Takeover}
use Rattle.rh_rules.specs.declared.notice.Notice.TheVariants as notice
use Rattle.rh_rules.specs.declared.notice.Pair.{Pair}
use Rattle.rh_rules.specs.declared.pick.Pick.{Pick}
use Rattle.rh_rules.specs.ByHand.{permission_set, permitted, frees}
use Rattle.rh_rules.specs.Course.{Course, course_of, is_local, is_fresh, fresh_of}
use Rattle.rh_rules.specs.Marking.{pair}
use Rattle.rh_rules.specs.Moves.{comes_before, lost_elsewhere, moved, moved_state}
use Rattle.rh_rules.specs.NodesStart.{ready_come_up}
use Rattle.rh_rules.specs.Placing.{dep_runs, deps_run, is_operational, picked}
use Rattle.rh_rules.specs.Settling.{IsBest, IsEnabled, NoneEnabled, nexts, settled, waits_told}
use Rattle.rh_rules.specs.Steps.{outcome, outcome_of, followed, next}
use Rattle.rh_state.specs.declared.status.Kind.TheVariants as kind
use Rattle.rh_state.specs.declared.status.Standing.TheVariants.{Quiet, Wanted, Running}
use Rattle.rh_state.specs.Numbers.{nodes_of}
use Rattle.rh_state.specs.Setters.{with_allowed}
use Rattle.rh_state.specs.Shape.{IsNodeOf, IsAppOf, IsShaped}
use Rattle.rh_state.specs.StateView.{StateView, is_up, mode_of, runs_at, waits_at, is_started, is_allowed, standing_of, running_count}
use Rattle.rh_state.specs.Tables.{row}
use Rattle.rh_trace.specs.Validity.{IsValid}
use Rattle.rh_trace.proofs.Entries.{taken, taken_has, put_has}
use Rattle.rh_trace.proofs.NextFirsts.{next_are_first, still_if_none_enabled}
use Rattle.rh_trace.proofs.NextMoves.{left_true, right_true, all_called}
use Rattle.rh_trace.proofs.Places.{at_set_here, at_set_there}
use Rattle.rh_trace.proofs.Shapes.{shaped_allowed, started_within}
use Rattle.rh_settle.proofs.FieldLaws.{never_left_wanted}
use Rattle.rh_settle.proofs.Fuel as fuel
use Rattle.rh_settle.proofs.Searches.{none_of_none, none_picked, contains_picked}
use Rattle.rh_settle.proofs.Soundly.{up_where_started}
use Rattle.rh_agreement_calls.specs.Starts.{is_dep}
use Rattle.rh_agreement_calls.proofs.Fewer.{none_ready}
use Rattle.rh_agreement_calls.proofs.Started.{wanted_not_quiet, running_not_wanted}
use Rattle.rh_agreement_permits.proofs.Unmoved.{flag_was, none_of}
use Rattle.rh_agreement_grants.specs.Grants.{StartsOncePermitted}

pub not_before_itself : (p : Option ℕ) → comes_before p p ≡ false
not_before_itself None = refl
not_before_itself (Some i) = grind (arith, nat_tests)

same_from : (from other : Option Node) → Wanted from ≡ Wanted other → from ≡ other
same_from from other is = cc

pub same_running : (m k : Node) → Running m ≡ Running k → m ≡ k
same_running m k is = cc

-- a row of a table of which each row passes a test
row_passes : {A : Type 0} (P : List A → Type 0) (table : List (List A)) (n : ℕ) → All P table → n < length table → P (row table n)
row_passes P [] n all inside = absurd (omega arith)
row_passes P (xs ∷ table) zero all inside = all 0 xs (omega arith)
row_passes P (xs ∷ table) (suc n) all inside = row_passes P table n (λ k d l. all (suc k) d (omega arith)) (omega arith)

pub or_parts : (p q : Bool) → (p || q) ≡ false → (p ≡ false) × (q ≡ false)
or_parts true q is = absurd (false≢true (sym is))
or_parts false q is = (refl, is)

-- what is permitted may be run there
pub set_now : (s : StateView) (n : Node) (a : App) → IsShaped s → IsNodeOf s.cluster n → IsAppOf s.cluster a
    → is_allowed (with_allowed s n a true) n a ≡ true
set_now s n a shaped node app =
    let rows : length s.allowed ≡ node_count s.cluster = shaped.allowed in
    let inside : n.0 < length s.allowed = omega (arith, rows, node) in
    let size : length (row s.allowed n.0) ≡ app_count s.cluster =
    row_passes (λ (flags : List Bool). length flags ≡ app_count s.cluster) s.allowed n.0 shaped.allowed_rows inside in
    ap (λ (flags : List Bool). unwrap_or (slice_get flags a.0) false)
    (at_set_here s.allowed n.0 (slice_set (row s.allowed n.0) a.0 true) [] inside)
    ∙ at_set_here (row s.allowed n.0) a.0 true false (omega (arith, size, app))

module _ (s : StateView) (n : Node) (a : App) (from : Option Node) (valid : IsValid s) (node : IsNodeOf s.cluster n)
    (can : StartsOncePermitted s n a from) where
  -- ---- what is so of one that waits

  started : is_started s n a ≡ true
  started = or_right (runs_at s n a) (waits_at s n a) can.waits

  app : IsAppOf s.cluster a
  app = started_within s n a valid.sound.shaped started

  up : is_up (mode_of s n) ≡ true
  up = up_where_started s n a valid.sound.idle started

  spread : is_local s.cluster a ≡ false
  spread = by (is_local s.cluster a) refl
    where
      by : (b : Bool) → is_local s.cluster a ≡ b → b ≡ false
      by true is = wanted_not_quiet from (standing_of s a) (valid.sound.standing.local a is) can.wanted
      by false is = refl

  some_so : {A : Type 0} (o : Option A) → is_some o ≡ true → IsSome o
  some_so None is = absurd (false≢true is)
  some_so (Some x) is = refl

  group_there : (m : Node) → is_started s m a ≡ true → IsSome (group_of s.cluster a m)
  group_there m there =
      some_so (group_of s.cluster a m)
      ((λ i. sym spread i || is_some (group_of s.cluster a m)) ∙ valid.sound.standing.listed m a there)

  not_local : {P : Type 0} (b : App) → b.0 ≡ a.0 → is_local s.cluster b ≡ true → P
  not_local b same local = absurd (true≢false (sym local ∙ ap (λ (k : ℕ). is_local s.cluster (app_numbered k)) same ∙ spread))

  -- ---- it is permitted

  abbrev opened : StateView
  opened = with_allowed s n a true

  abbrev course : Course
  course = permission_set (course_of s [] []) n a true

  abbrev fresh : List Pair
  fresh = fresh_of course

  permitted_so : permitted (course_of s [] []) n a true ≡ course
  unfolding permitted
  permitted_so = refl

  shaped : IsShaped opened
  shaped = shaped_allowed s n a true node valid.sound.shaped

  may_now : is_allowed opened n a ≡ true
  may_now = set_now s n a valid.sound.shaped node app

  -- a flag that is set now was, or is this one
  may_before : {P : Type 0} (m : Node) (b : App) → is_allowed opened m b ≡ true → (is_allowed s m b ≡ true → P)
      → (m.0 ≡ n.0 → b.0 ≡ a.0 → P) → P
  may_before m b is before new = flag_was s.allowed n.0 m.0 a.0 b.0 true is before (λ here same on. new here same)

  -- where it can run now it could before, or it is this one
  could_run : {P : Type 0} (m : Node) (b : App) → is_operational opened b m ≡ true → (is_operational s b m ≡ true → P)
      → (m.0 ≡ n.0 → b.0 ≡ a.0 → P) → P
  unfolding is_operational deps_run
  could_run m b is before new =
      let up_too : is_up (mode_of s m) ≡ true = left_true _ _ is in
      let rest = right_true (is_up (mode_of s m)) _ is in
      let there : is_started s m b ≡ true = left_true _ _ rest in
      let more = right_true (is_started s m b) _ rest in
      let needs = right_true (is_allowed opened m b) _ more in
      may_before m b (left_true _ _ more) (λ may. before (λ i. up_too i && (there i && (may i && needs i)))) new

  started_there : (b : App) (m : Node) → is_operational s b m ≡ true → is_started s m b ≡ true
  unfolding is_operational
  started_there b m is = left_true _ _ (right_true (is_up (mode_of s m)) _ is)

  can_now : is_operational opened a n ≡ true
  unfolding is_operational deps_run
  can_now = λ i. up i && (started i && (may_now i && can.needs i))

  -- ---- its placement is the one move

  only_here : (m : Node) → is_operational opened a m ≡ true → m.0 ≡ n.0
  only_here m is =
      could_run m a is
      (λ before. both (is_operational s a m) before
      (never_left_wanted s a from valid.still app can.wanted m (group_there m (started_there a m before))))
      (λ here same. here)

  is_best : IsBest opened a (is_operational opened a) n
  is_best = record {
    listed = group_there n started;
    passes = can_now;
    first = λ m is.
        ap (λ (k : ℕ). comes_before (group_of s.cluster a (numbered k)) (group_of s.cluster a n)) (only_here m is)
        ∙ not_before_itself (group_of s.cluster a n);
    fewest = λ m is same_group.
        subst (λ (k : ℕ). running_count opened n ≤ running_count opened (numbered k)) (sym (only_here m is)) (omega arith);
  }

  -- only this pair is fresh, if any
  only_fresh : (m : Node) (b : App) → is_fresh fresh m b ≡ true → (m.0 ≡ n.0) × (b.0 ≡ a.0)
  only_fresh m b is = by (frees s n a true) is
    where
      alone : (p : Bool) → (p || false) ≡ true → p ≡ true
      alone true so = refl
      alone false so = so

      by : (f : Bool) → is_fresh (cond f (pair n a ∷ []) [] ++ []) m b ≡ true → (m.0 ≡ n.0) × (b.0 ≡ a.0)
      by false so = absurd (false≢true so)
      by true so =
          let found : ((m.0 == n.0) && (b.0 == a.0)) ≡ true = alone _ so in
          (same_number m.0 n.0 (left_true _ _ found), same_number b.0 a.0 (right_true (m.0 == n.0) _ found))

  wanted_too : (b : App) → b.0 ≡ a.0 → standing_of s b ≡ Wanted from
  wanted_too b same = ap (λ (k : ℕ). standing_of s (app_numbered k)) same ∙ can.wanted

  only_move : (move : Move) → IsEnabled opened fresh move → move ≡ Placement a from n
  unfolding deps_run
  only_move (Local m b) is =
      may_before m b is.3 (λ may. absurd (valid.still (Local m b) (is.0, is.1, is.2, may, is.4))) (λ here same. not_local b same is.1)
  only_move (Placement b other m) is =
      could_run m b is.2.passes
      (λ before. both (is_operational s b m) before (never_left_wanted s b other valid.still is.0 is.1 m is.2.listed))
      (λ here same.
      let froms : from ≡ other = same_from from other (sym (wanted_too b same) ∙ is.1) in
      λ i. Placement (app_numbered (same i)) (sym froms i) (numbered (here i)))
  only_move (Takeover b k m) is =
      let ours = only_fresh m b (all_called opened fresh b k m is.2.passes).1 in
      running_not_wanted k from (standing_of s b) is.1 (wanted_too b ours.1)

  starts_first : IsEnabled opened fresh (Placement a from n)
  starts_first = (app, can.wanted, is_best)

  picks : (pick : Pick) → picked pick (nexts course) ≡ Some (Placement a from n)
  picks pick =
      fuel.by_option (picked pick (nexts course))
      (λ none. absurd ((still_if_none_enabled opened fresh).0 (none_picked pick (nexts course) none) (Placement a from n) starts_first))
      (λ move is. is
      ∙ ap Some (only_move move ((next_are_first opened fresh move).0 (contains_picked pick (nexts course) move is)).enabled))

  -- ---- behind it

  abbrev pub then : StateView
  then = moved_state opened (Placement a from n)

  abbrev last : Course
  last = moved course (Placement a from n)

  waited : (m : Node) (b : App) → waits_at then m b ≡ true → waits_at s m b ≡ true
  waited m b is = taken_has s.waiting n.0 m.0 a b is

  ran : {P : Type 0} (m : Node) (b : App) → runs_at then m b ≡ true → (runs_at s m b ≡ true → P) → (m.0 ≡ n.0 → (b.0 == a.0) ≡ true → P) → P
  ran m b is before new = put_has (taken s.running n.0 a) n.0 m.0 a b is (λ left. before (taken_has s.running n.0 m.0 a b left)) new

  abbrev unneeded_by : List Dep → Type 0
  unneeded_by deps = list_any (is_dep a) deps ≡ false

  dep_ran : (m : Node) (d : Dep) → (m.0 ≡ n.0 → is_dep a d ≡ false) → dep_runs then m d ≡ true → dep_runs s m d ≡ true
  dep_ran m (Listed b) apart is =
      ran m b is (λ before. before)
      (λ here same. both (a.0 == b.0) (ap (λ (k : ℕ). a.0 == k) (same_number b.0 a.0 same) ∙ same_refl a.0) (apart here))
  dep_ran m (Platform p) apart is = is

  each_ran : (m : Node) (deps : List Dep) → (m.0 ≡ n.0 → unneeded_by deps) → list_all (dep_runs then m) deps ≡ true
      → list_all (dep_runs s m) deps ≡ true
  each_ran m [] apart is = refl
  each_ran m (d ∷ deps) apart is =
      let parts = and_parts (dep_runs then m d) _ is in
      λ i. dep_ran m d (λ here. (or_parts (is_dep a d) _ (apart here)).0) parts.0 i
      && each_ran m deps (λ here. (or_parts (is_dep a d) _ (apart here)).1) parts.1 i

  unneeded_there : (m : Node) (b : App) → waits_at s m b ≡ true → m.0 ≡ n.0 → unneeded_by (deps_of s.cluster b)
  unneeded_there m b waits here = can.unneeded b (sym (ap (λ (k : ℕ). waits_at s (numbered k) b) here) ∙ waits)

  -- one that is to run runs nowhere
  wanted_runs_not : {P : Type 0} (m : Node) (b : App) (other : Option Node) → standing_of s b ≡ Wanted other → runs_at s m b ≡ true → P
  wanted_runs_not {P = P} m b other wanted runs = by (is_local s.cluster b) refl
    where
      by : (p : Bool) → is_local s.cluster b ≡ p → P
      by true is = wanted_not_quiet other (standing_of s b) (valid.sound.standing.local b is) wanted
      by false is = running_not_wanted m other (standing_of s b) (valid.sound.standing.stands m b is runs) wanted

  waits_before : (m : Node) (b : App) (other : Option Node) → b.0 ≢ a.0 → standing_of s b ≡ Wanted other → (p : Bool) → runs_at then m b ≡ p
      → (p || waits_at then m b) ≡ true → waits_at s m b ≡ true
  waits_before m b other apart wanted true runs is =
      ran m b runs (wanted_runs_not m b other wanted) (λ here same. absurd (apart (same_number b.0 a.0 same)))
  waits_before m b other apart wanted false runs is = waited m b is

  -- another one that is to run could run there before
  could_run_then : (m : Node) (b : App) (other : Option Node) → b.0 ≢ a.0 → standing_of s b ≡ Wanted other → is_operational then b m ≡ true
      → is_operational s b m ≡ true
  unfolding is_operational deps_run
  could_run_then m b other apart wanted is =
      let up_too : is_up (mode_of s m) ≡ true = left_true _ _ is in
      let rest = right_true (is_up (mode_of s m)) _ is in
      let waits : waits_at s m b ≡ true = waits_before m b other apart wanted (runs_at then m b) refl (left_true _ _ rest) in
      let more = right_true (is_started then m b) _ rest in
      let there : is_started s m b ≡ true = or_right (runs_at s m b) (waits_at s m b) waits in
      let may : is_allowed s m b ≡ true =
      may_before m b (left_true (is_allowed then m b) (deps_run then m b) more) (λ was. was) (λ here same. absurd (apart same)) in
      let needs : list_all (dep_runs s m) (deps_of s.cluster b) ≡ true =
      each_ran m (deps_of s.cluster b) (unneeded_there m b waits) (right_true (is_allowed then m b) (deps_run then m b) more) in
      λ i. up_too i && (there i && (may i && needs i))

  in_standings : a.0 < length s.standings
  in_standings = subst (λ (k : ℕ). a.0 < k) (sym valid.sound.shaped.standings) app

  runs_now : (b : App) → b.0 ≡ a.0 → standing_of then b ≡ Running n
  runs_now b same =
      ap (λ (k : ℕ). standing_of then (app_numbered k)) same ∙ at_set_here s.standings a.0 (Running n) Quiet in_standings

  none_moves : NoneEnabled then fresh
  unfolding deps_run
  none_moves (Local m b) is =
      let waits : waits_at s m b ≡ true = waited m b is.2 in
      may_before m b is.3
      (λ may. valid.still (Local m b) (is.0, is.1, waits, may, each_ran m (deps_of s.cluster b) (unneeded_there m b waits) is.4))
      (λ here same. not_local b same is.1)
  none_moves (Placement b other m) is = elim (cases_eq b.0 a.0) [
    | inl same ↦ running_not_wanted n other (standing_of then b) (runs_now b same) is.1
    | inr apart ↦
        let wanted : standing_of s b ≡ Wanted other = sym (at_set_there s.standings a.0 b.0 (Running n) Quiet apart) ∙ is.1 in
        both (is_operational s b m) (could_run_then m b other apart wanted is.2.passes)
        (never_left_wanted s b other valid.still is.0 wanted m is.2.listed)
  ]
  none_moves (Takeover b k m) is =
      let called = all_called then fresh b k m is.2.passes in
      let ours = only_fresh m b called.1 in
      let at : n ≡ k = same_running n k (sym (runs_now b ours.1) ∙ is.1) in
      true≢false
      (sym called.0
      ∙ (λ i. comes_before (group_of s.cluster b (numbered (ours.0 i))) (group_of s.cluster b (sym at i)))
      ∙ not_before_itself (group_of s.cluster b n))

  no_next : (pick : Pick) → picked pick (nexts last) ≡ None
  no_next pick = ap (picked pick) ((still_if_none_enabled then fresh).1 none_moves) ∙ sym (none_of_none pick)

  settles_so : (pick : Pick) → settled pick course ≡ last
  settles_so pick =
      ap waits_told (fuel.unrolled pick course (Placement a from n) shaped (picks pick) ∙ fuel.ended pick last (no_next pick))

  none_comes_up : ready_come_up course ≡ course
  unfolding ready_come_up
  none_comes_up = none_of course (none_ready s opened refl refl valid.settled) (nodes_of opened.cluster)

  pub only_starts : (pick : Pick)
      → next s (event.Permit n a true) pick ≡ outcome then (notice.Started a n kind.Normal (lost_elsewhere from n) ∷ [])
  unfolding next followed
  only_starts pick =
      ap (λ (o : Course). outcome_of (settled pick (ready_come_up o))) permitted_so
      ∙ ap (λ (o : Course). outcome_of (settled pick o)) none_comes_up
      ∙ ap outcome_of (settles_so pick)
      ∙ (λ i. outcome then (notice.Started a n (can.normal i) (lost_elsewhere from n) ∷ []))
