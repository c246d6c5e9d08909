-- By the manual's rules a distributed application that runs at a node of a later group is called back where it is permitted again, in the
-- profiles in which that is so, if what it needs runs there; and that is all, where nobody waits there for it.
use Rattle.std.proofs.Common.{◌≡◌, ◌≢◌, ◌<◌, ◌≤◌, ◌==◌, ◌++◌, ◌||◌, ◌&&◌, ℕ, Bool, true, false, not, cond, is_some, List, [], ◌∷◌, length, Option, None, Some, IsSome, refl, sym, ap, subst, ◌∙◌, inl, inr, arith}
use Rattle.std.specs.List.{list_all, list_any}
use Rattle.std.proofs.lemmas.Bool.{and_parts, cases_eq, false≢true, true≢false}
use Rattle.rh_base.proofs.Truths.{both, or_right, same_number, same_refl}
use Rattle.rh_model.specs.ClusterView.{deps_of, group_of, numbered, app_numbered}
use Rattle.rh_model.specs.declared.node.App.{App}
use Rattle.rh_model.specs.declared.node.Node.{Node}
use Rattle.rh_model.specs.declared.settings.Dep.{Dep}
use Rattle.rh_model.specs.declared.settings.Dep.TheVariants.{Listed, Platform}
use Rattle.rh_rules.specs.declared.event.Event.TheVariants as event
use Rattle.rh_rules.specs.declared.notice.Move.{Move}
use Rattle.rh_rules.specs.declared.notice.Move.TheVariants.{Local, Placement, Takeover}
use Rattle.rh_rules.specs.declared.notice.Notice.{Notice}
use Rattle.rh_rules.specs.declared.notice.Notice.TheVariants as notice
use Rattle.rh_rules.specs.declared.notice.Pair.{Pair}
use Rattle.rh_rules.specs.declared.pick.Pick.{Pick}
use Rattle.rh_rules.specs.ByHand.{permission_set, permitted, frees}
use Rattle.rh_rules.specs.Course.{Course, course_of, is_local, is_fresh, fresh_of}
use Rattle.rh_rules.specs.Marking.{pair}
use Rattle.rh_rules.specs.Moves.{comes_before, calls_away, moved, moved_state}
use Rattle.rh_rules.specs.NodesStart.{ready_come_up}
use Rattle.rh_rules.specs.Placing.{dep_runs, deps_run, is_operational, picked}
use Rattle.rh_rules.specs.Settling.{IsBest, IsEnabled, NoneEnabled, nexts, settled, waits_told}
use Rattle.rh_rules.specs.Steps.{outcome, outcome_of, followed, next}
use Rattle.rh_state.specs.declared.status.Kind.TheVariants as kind
use Rattle.rh_state.specs.declared.status.Standing.TheVariants.{Quiet, Wanted, Running}
use Rattle.rh_state.specs.Numbers.{nodes_of}
use Rattle.rh_state.specs.Setters.{with_allowed}
use Rattle.rh_state.specs.Shape.{IsNodeOf, IsAppOf, IsShaped}
use Rattle.rh_state.specs.StateView.{StateView, is_up, mode_of, runs_at, waits_at, is_started, is_allowed, standing_of, running_count}
use Rattle.rh_trace.specs.Validity.{IsValid}
use Rattle.rh_trace.proofs.Entries.{taken_has, put_has}
use Rattle.rh_trace.proofs.NextFirsts.{next_are_first, still_if_none_enabled}
use Rattle.rh_trace.proofs.NextMoves.{left_true, right_true, all_called}
use Rattle.rh_trace.proofs.Places.{at_set_here, at_set_there}
use Rattle.rh_trace.proofs.Shapes.{shaped_allowed, started_within}
use Rattle.rh_settle.proofs.FieldLaws.{never_left_wanted}
use Rattle.rh_settle.proofs.Fuel as fuel
use Rattle.rh_settle.proofs.Searches.{none_of_none, none_picked, contains_picked}
use Rattle.rh_settle.proofs.Soundly.{up_where_started}
use Rattle.rh_agreement_calls.specs.Starts.{is_dep}
use Rattle.rh_agreement_calls.proofs.Fewer.{none_ready}
use Rattle.rh_agreement_calls.proofs.Started.{wanted_not_quiet, running_not_quiet, running_not_wanted}
use Rattle.rh_agreement_permits.proofs.Unmoved.{flag_was, none_of}
use Rattle.rh_agreement_grants.specs.CallBacks.{IsCalledBack}
use Rattle.rh_agreement_grants.proofs.Granted.{not_before_itself, same_running, or_parts, set_now}

module _ (s : StateView) (n at : Node) (a : App) (valid : IsValid s) (node : IsNodeOf s.cluster n) (can : IsCalledBack s n at a) where
  -- ---- what is so of one that waits

  started : is_started s n a ≡ true
  started = or_right (runs_at s n a) (waits_at s n a) can.waits

  app : IsAppOf s.cluster a
  app = started_within s n a valid.sound.shaped started

  up : is_up (mode_of s n) ≡ true
  up = up_where_started s n a valid.sound.idle started

  spread : is_local s.cluster a ≡ false
  spread = by (is_local s.cluster a) refl
    where
      by : (b : Bool) → is_local s.cluster a ≡ b → b ≡ false
      by true is = running_not_quiet at (standing_of s a) (valid.sound.standing.local a is) can.runs
      by false is = refl

  some_so : {A : Type 0} (o : Option A) → is_some o ≡ true → IsSome o
  some_so None is = absurd (false≢true is)
  some_so (Some x) is = refl

  group_there : IsSome (group_of s.cluster a n)
  group_there =
      some_so (group_of s.cluster a n)
      ((λ i. sym spread i || is_some (group_of s.cluster a n)) ∙ valid.sound.standing.listed n a started)

  not_local : {P : Type 0} (b : App) → b.0 ≡ a.0 → is_local s.cluster b ≡ true → P
  not_local b same local = absurd (true≢false (sym local ∙ ap (λ (k : ℕ). is_local s.cluster (app_numbered k)) same ∙ spread))

  runs_too : (b : App) → b.0 ≡ a.0 → standing_of s b ≡ Running at
  runs_too b same = ap (λ (k : ℕ). standing_of s (app_numbered k)) same ∙ can.runs

  pub apart : at.0 ≢ n.0
  apart same =
      true≢false
      (sym can.before ∙ ap (λ (k : ℕ). comes_before (group_of s.cluster a n) (group_of s.cluster a (numbered k))) same
      ∙ not_before_itself (group_of s.cluster a n))

  -- ---- it is permitted

  abbrev opened : StateView
  opened = with_allowed s n a true

  abbrev course : Course
  course = permission_set (course_of s [] []) n a true

  abbrev fresh : List Pair
  fresh = fresh_of course

  permitted_so : permitted (course_of s [] []) n a true ≡ course
  unfolding permitted
  permitted_so = refl

  shaped : IsShaped opened
  shaped = shaped_allowed s n a true node valid.sound.shaped

  may_now : is_allowed opened n a ≡ true
  may_now = set_now s n a valid.sound.shaped node app

  -- a flag that is set now was, or is this one
  may_before : {P : Type 0} (m : Node) (b : App) → is_allowed opened m b ≡ true → (is_allowed s m b ≡ true → P)
      → (m.0 ≡ n.0 → b.0 ≡ a.0 → P) → P
  may_before m b is before new = flag_was s.allowed n.0 m.0 a.0 b.0 true is before (λ here same on. new here same)

  -- where it can run now it could before, or it is this one
  could_run : {P : Type 0} (m : Node) (b : App) → is_operational opened b m ≡ true → (is_operational s b m ≡ true → P)
      → (m.0 ≡ n.0 → b.0 ≡ a.0 → P) → P
  unfolding is_operational deps_run
  could_run m b is before new =
      let up_too : is_up (mode_of s m) ≡ true = left_true _ _ is in
      let rest = right_true (is_up (mode_of s m)) _ is in
      let there : is_started s m b ≡ true = left_true _ _ rest in
      let more = right_true (is_started s m b) _ rest in
      let needs = right_true (is_allowed opened m b) _ more in
      may_before m b (left_true _ _ more) (λ may. before (λ i. up_too i && (there i && (may i && needs i)))) new

  can_now : is_operational opened a n ≡ true
  unfolding is_operational deps_run
  can_now = λ i. up i && (started i && (may_now i && can.needs i))

  -- ---- the pair is free, and it alone

  freed_so : frees s n a true ≡ true
  freed_so = λ i. can.pulls i && (not (can.may_not i) && started i)

  only_fresh : (m : Node) (b : App) → is_fresh fresh m b ≡ true → (m.0 ≡ n.0) × (b.0 ≡ a.0)
  only_fresh m b is = by (frees s n a true) is
    where
      alone : (p : Bool) → (p || false) ≡ true → p ≡ true
      alone true so = refl
      alone false so = so

      by : (f : Bool) → is_fresh (cond f (pair n a ∷ []) [] ++ []) m b ≡ true → (m.0 ≡ n.0) × (b.0 ≡ a.0)
      by false so = absurd (false≢true so)
      by true so =
          let found : ((m.0 == n.0) && (b.0 == a.0)) ≡ true = alone _ so in
          (same_number m.0 n.0 (left_true _ _ found), same_number b.0 a.0 (right_true (m.0 == n.0) _ found))

  fresh_here : is_fresh fresh n a ≡ true
  fresh_here =
      ap (λ (f : Bool). is_fresh (cond f (pair n a ∷ []) [] ++ []) n a) freed_so
      ∙ (λ i. (same_refl n.0 i && same_refl a.0 i) || false)

  calls : calls_away opened fresh a at n ≡ true
  unfolding calls_away
  calls = λ i. can.before i && (fresh_here i && can_now i)

  -- ---- the takeover is the one move

  best_here : (m : Node) → calls_away opened fresh a at m ≡ true → m.0 ≡ n.0
  best_here m is = (only_fresh m a (all_called opened fresh a at m is).1).0

  is_best : IsBest opened a (calls_away opened fresh a at) n
  is_best = record {
    listed = group_there;
    passes = calls;
    first = λ m is.
        ap (λ (k : ℕ). comes_before (group_of s.cluster a (numbered k)) (group_of s.cluster a n)) (best_here m is)
        ∙ not_before_itself (group_of s.cluster a n);
    fewest = λ m is same_group.
        subst (λ (k : ℕ). running_count opened n ≤ running_count opened (numbered k)) (sym (best_here m is)) (omega arith);
  }

  only_move : (move : Move) → IsEnabled opened fresh move → move ≡ Takeover a at n
  unfolding deps_run
  only_move (Local m b) is =
      may_before m b is.3 (λ may. absurd (valid.still (Local m b) (is.0, is.1, is.2, may, is.4))) (λ here same. not_local b same is.1)
  only_move (Placement b other m) is =
      could_run m b is.2.passes
      (λ before. both (is_operational s b m) before (never_left_wanted s b other valid.still is.0 is.1 m is.2.listed))
      (λ here same. running_not_wanted at other (standing_of s b) (runs_too b same) is.1)
  only_move (Takeover b k m) is =
      let ours = only_fresh m b (all_called opened fresh b k m is.2.passes).1 in
      let from : at ≡ k = same_running at k (sym (runs_too b ours.1) ∙ is.1) in
      λ i. Takeover (app_numbered (ours.1 i)) (sym from i) (numbered (ours.0 i))

  moves_first : IsEnabled opened fresh (Takeover a at n)
  moves_first = (app, can.runs, is_best)

  picks : (pick : Pick) → picked pick (nexts course) ≡ Some (Takeover a at n)
  picks pick =
      fuel.by_option (picked pick (nexts course))
      (λ none. absurd ((still_if_none_enabled opened fresh).0 (none_picked pick (nexts course) none) (Takeover a at n) moves_first))
      (λ move is. is
      ∙ ap Some (only_move move ((next_are_first opened fresh move).0 (contains_picked pick (nexts course) move is)).enabled))

  -- ---- behind it

  abbrev pub then : StateView
  then = moved_state opened (Takeover a at n)

  abbrev last : Course
  last = moved course (Takeover a at n)

  abbrev pub notes : List Notice
  notes = notice.Started a n (kind.Takeover at) None ∷ notice.Stopped a at ∷ []

  waited : {P : Type 0} (m : Node) (b : App) → waits_at then m b ≡ true → (waits_at s m b ≡ true → P)
      → (m.0 ≡ at.0 → (b.0 == a.0) ≡ true → P) → P
  waited m b is before new =
      put_has _ at.0 m.0 a b is
      (λ left. before (taken_has s.waiting n.0 m.0 a b (taken_has _ at.0 m.0 a b left))) new

  ran : {P : Type 0} (m : Node) (b : App) → runs_at then m b ≡ true → (runs_at s m b ≡ true → P) → (m.0 ≡ n.0 → (b.0 == a.0) ≡ true → P) → P
  ran m b is before new =
      put_has _ n.0 m.0 a b (taken_has _ at.0 m.0 a b is) (λ left. before (taken_has s.running n.0 m.0 a b left)) new

  abbrev unneeded_by : List Dep → Type 0
  unneeded_by deps = list_any (is_dep a) deps ≡ false

  dep_ran : (m : Node) (d : Dep) → (m.0 ≡ n.0 → is_dep a d ≡ false) → dep_runs then m d ≡ true → dep_runs s m d ≡ true
  dep_ran m (Listed b) far is =
      ran m b is (λ before. before)
      (λ here same. both (a.0 == b.0) (ap (λ (k : ℕ). a.0 == k) (same_number b.0 a.0 same) ∙ same_refl a.0) (far here))
  dep_ran m (Platform p) far is = is

  each_ran : (m : Node) (deps : List Dep) → (m.0 ≡ n.0 → unneeded_by deps) → list_all (dep_runs then m) deps ≡ true
      → list_all (dep_runs s m) deps ≡ true
  each_ran m [] far is = refl
  each_ran m (d ∷ deps) far is =
      let parts = and_parts (dep_runs then m d) _ is in
      λ i. dep_ran m d (λ here. (or_parts (is_dep a d) _ (far here)).0) parts.0 i
      && each_ran m deps (λ here. (or_parts (is_dep a d) _ (far here)).1) parts.1 i

  unneeded_there : (m : Node) (b : App) → waits_at s m b ≡ true → m.0 ≡ n.0 → unneeded_by (deps_of s.cluster b)
  unneeded_there m b waits here = can.unneeded b (sym (ap (λ (k : ℕ). waits_at s (numbered k) b) here) ∙ waits)

  -- one that is to run runs nowhere, and is another one
  wanted_runs_not : {P : Type 0} (m : Node) (b : App) (from : Option Node) → standing_of s b ≡ Wanted from → runs_at s m b ≡ true → P
  wanted_runs_not {P = P} m b from wanted runs = by (is_local s.cluster b) refl
    where
      by : (p : Bool) → is_local s.cluster b ≡ p → P
      by true is = wanted_not_quiet from (standing_of s b) (valid.sound.standing.local b is) wanted
      by false is = running_not_wanted m from (standing_of s b) (valid.sound.standing.stands m b is runs) wanted

  not_wanted : {P : Type 0} (b : App) (from : Option Node) → standing_of s b ≡ Wanted from → b.0 ≡ a.0 → P
  not_wanted b from wanted same = running_not_wanted at from (standing_of s b) (runs_too b same) wanted

  waits_before : (m : Node) (b : App) (from : Option Node) → standing_of s b ≡ Wanted from → (p : Bool) → runs_at then m b ≡ p
      → (p || waits_at then m b) ≡ true → waits_at s m b ≡ true
  waits_before m b from wanted true runs is =
      ran m b runs (wanted_runs_not m b from wanted) (λ here same. not_wanted b from wanted (same_number b.0 a.0 same))
  waits_before m b from wanted false runs is =
      waited m b is (λ before. before) (λ here same. not_wanted b from wanted (same_number b.0 a.0 same))

  -- another one that is to run could run there before
  could_run_then : (m : Node) (b : App) (from : Option Node) → standing_of s b ≡ Wanted from → is_operational then b m ≡ true
      → is_operational s b m ≡ true
  unfolding is_operational deps_run
  could_run_then m b from wanted is =
      let up_too : is_up (mode_of s m) ≡ true = left_true _ _ is in
      let rest = right_true (is_up (mode_of s m)) _ is in
      let waits : waits_at s m b ≡ true = waits_before m b from wanted (runs_at then m b) refl (left_true _ _ rest) in
      let more = right_true (is_started then m b) _ rest in
      let there : is_started s m b ≡ true = or_right (runs_at s m b) (waits_at s m b) waits in
      let may : is_allowed s m b ≡ true =
      may_before m b (left_true (is_allowed then m b) (deps_run then m b) more) (λ was. was) (λ here same. not_wanted b from wanted same) in
      let needs : list_all (dep_runs s m) (deps_of s.cluster b) ≡ true =
      each_ran m (deps_of s.cluster b) (unneeded_there m b waits) (right_true (is_allowed then m b) (deps_run then m b) more) in
      λ i. up_too i && (there i && (may i && needs i))

  in_standings : a.0 < length s.standings
  in_standings = subst (λ (k : ℕ). a.0 < k) (sym valid.sound.shaped.standings) app

  runs_now : (b : App) → b.0 ≡ a.0 → standing_of then b ≡ Running n
  runs_now b same =
      ap (λ (k : ℕ). standing_of then (app_numbered k)) same ∙ at_set_here s.standings a.0 (Running n) Quiet in_standings

  none_moves : NoneEnabled then fresh
  unfolding deps_run
  none_moves (Local m b) is =
      waited m b is.2
      (λ waits.
      may_before m b is.3
      (λ may. valid.still (Local m b) (is.0, is.1, waits, may, each_ran m (deps_of s.cluster b) (unneeded_there m b waits) is.4))
      (λ here same. not_local b same is.1))
      (λ here same. not_local b (same_number b.0 a.0 same) is.1)
  none_moves (Placement b from m) is = elim (cases_eq b.0 a.0) [
    | inl same ↦ running_not_wanted n from (standing_of then b) (runs_now b same) is.1
    | inr far ↦
        let wanted : standing_of s b ≡ Wanted from = sym (at_set_there s.standings a.0 b.0 (Running n) Quiet far) ∙ is.1 in
        both (is_operational s b m) (could_run_then m b from wanted is.2.passes)
        (never_left_wanted s b from valid.still is.0 wanted m is.2.listed)
  ]
  none_moves (Takeover b k m) is =
      let called = all_called then fresh b k m is.2.passes in
      let ours = only_fresh m b called.1 in
      let there : n ≡ k = same_running n k (sym (runs_now b ours.1) ∙ is.1) in
      true≢false
      (sym called.0
      ∙ (λ i. comes_before (group_of s.cluster b (numbered (ours.0 i))) (group_of s.cluster b (sym there i)))
      ∙ not_before_itself (group_of s.cluster b n))

  no_next : (pick : Pick) → picked pick (nexts last) ≡ None
  no_next pick = ap (picked pick) ((still_if_none_enabled then fresh).1 none_moves) ∙ sym (none_of_none pick)

  settles_so : (pick : Pick) → settled pick course ≡ last
  settles_so pick =
      ap waits_told (fuel.unrolled pick course (Takeover a at n) shaped (picks pick) ∙ fuel.ended pick last (no_next pick))

  none_comes_up : ready_come_up course ≡ course
  unfolding ready_come_up
  none_comes_up = none_of course (none_ready s opened refl refl valid.settled) (nodes_of opened.cluster)

  pub only_moves : (pick : Pick) → next s (event.Permit n a true) pick ≡ outcome then notes
  unfolding next followed
  only_moves pick =
      ap (λ (o : Course). outcome_of (settled pick (ready_come_up o))) permitted_so
      ∙ ap (λ (o : Course). outcome_of (settled pick o)) none_comes_up
      ∙ ap outcome_of (settles_so pick)
