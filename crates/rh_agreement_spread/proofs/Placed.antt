-- By the manual's rules a distributed application that is to run nowhere starts where it is started by hand, and that is all, where that is
-- the best node that can run it, and nobody waits there for it.
use Rattle.std.proofs.Common.{◌≡◌, ◌≢◌, ◌<◌, ◌≤◌, ◌==◌, ◌||◌, ◌&&◌, ℕ, Bool, true, false, cond, is_some, List, [], ◌∷◌, length, slice_get, slice_set, unwrap_or, Option, None, Some, IsSome, refl, sym, ap, subst, ◌∙◌, inl, inr, arith}
use Rattle.std.specs.List.{list_all, list_any}
use Rattle.std.proofs.lemmas.Bool.{and_parts, cases_eq, false≢true, true≢false}
use Rattle.std.proofs.lemmas.Bool.Decides.{nat_tests}
use Rattle.std.proofs.lemmas.List.{length-set}
use Rattle.rh_base.proofs.Truths.{both, or_left, or_right, same_number, same_refl}
use Rattle.rh_model.specs.ClusterView.{deps_of, group_of, numbered, app_numbered}
use Rattle.rh_model.specs.declared.node.App.{App}
use Rattle.rh_model.specs.declared.node.Node.{Node}
use Rattle.rh_model.specs.declared.settings.Dep.{Dep}
use Rattle.rh_model.specs.declared.settings.Dep.TheVariants.{Listed, Platform}
use Rattle.rh_model.specs.declared.settings.Restart.{Restart}
use Rattle.rh_rules.specs.declared.event.Event.TheVariants as event
use Rattle.rh_rules.specs.declared.notice.Move.{Move}
use Rattle.rh_rules.specs.declared.notice.Move.TheVariants.{Local, Placement, Takeover}
use Rattle.rh_rules.specs.declared.notice.Notice.TheVariants as notice
use Rattle.rh_rules.specs.declared.notice.Pair.{Pair}
use Rattle.rh_rules.specs.declared.pick.Pick.{Pick}
use Rattle.rh_rules.specs.Course.{Course, course_of, told, is_local, is_fresh}
use Rattle.rh_rules.specs.Marking.{pair, with_mark, wanted_by_mark}
use Rattle.rh_rules.specs.Moves.{comes_before, moved, moved_state}
use Rattle.rh_rules.specs.NodesStart.{ready_come_up}
use Rattle.rh_rules.specs.Placing.{dep_runs, deps_run, is_operational, picked}
use Rattle.rh_rules.specs.Settling.{IsBest, IsEnabled, NoneEnabled, nexts, settled, waits_told}
use Rattle.rh_rules.specs.Steps.{outcome, outcome_of, followed, next}
use Rattle.rh_state.specs.declared.status.Kind.TheVariants as kind
use Rattle.rh_state.specs.declared.status.Standing.{Standing}
use Rattle.rh_state.specs.declared.status.Standing.TheVariants.{Quiet, Wanted, Running}
use Rattle.rh_state.specs.Setters.{with_waiting, with_restart, with_standing}
use Rattle.rh_state.specs.Shape.{IsNodeOf}
use Rattle.rh_state.specs.StateView.{StateView, is_up, mode_of, runs_at, waits_at, is_started, is_allowed, standing_of, running_count}
use Rattle.rh_trace.specs.Validity.{IsSound, IsValid}
use Rattle.rh_trace.proofs.Entries.{has, taken, put, taken_has, taken_not, put_has, put_gives, length_put}
use Rattle.rh_trace.proofs.NextFirsts.{next_are_first, still_if_none_enabled}
use Rattle.rh_trace.proofs.NextMoves.{left_true, right_true, all_called}
use Rattle.rh_trace.proofs.Places.{at_set, at_set_here}
use Rattle.rh_settle.proofs.FieldLaws.{never_left_wanted}
use Rattle.rh_settle.proofs.Fuel as fuel
use Rattle.rh_settle.proofs.Searches.{none_of_none, none_picked, contains_picked}
use Rattle.rh_events.proofs.SoundMarks.{sound_mark}
use Rattle.rh_agreement_calls.specs.Starts.{is_dep}
use Rattle.rh_agreement_calls.proofs.Fewer.{none_comes_up}
use Rattle.rh_agreement_calls.proofs.Started.{wanted_not_quiet, running_not_quiet, running_not_wanted}
use Rattle.rh_agreement_spread.specs.Starts.{CanBePlaced}

-- ---- places in a list

pub before_not_behind : (p q : Option ℕ) → comes_before p q ≡ true → comes_before q p ≡ false
before_not_behind None q is = absurd (false≢true is)
before_not_behind (Some i) None is = refl
before_not_behind (Some i) (Some j) is = grind (arith, nat_tests, is)

pub not_before_itself : (p : Option ℕ) → comes_before p p ≡ false
not_before_itself None = refl
not_before_itself (Some i) = grind (arith, nat_tests)

pub some_so : {A : Type 0} (o : Option A) → is_some o ≡ true → IsSome o
some_so None is = absurd (false≢true is)
some_so (Some x) is = refl

wanted_is : (from : Option Node) → Wanted None ≡ Wanted from → from ≡ None
wanted_is None is = refl
wanted_is (Some m) is = absurd (cc)

wanted_not_running : {P : Type 0} (k : Node) (st : Standing) → st ≡ Wanted None → st ≡ Running k → P
wanted_not_running k st wanted runs = absurd (clash (sym wanted ∙ runs))
  where
    clash : Wanted None ≡ Running k → ⊥
    clash is = cc

same_running : (m k : Node) → Running m ≡ Running k → m ≡ k
same_running m k is = cc

module _ (s : StateView) (n : Node) (a : App) (r : Restart) (valid : IsValid s) (node : IsNodeOf s.cluster n)
    (can : CanBePlaced s n a) where
  -- ---- it waits there at first, and is wanted

  abbrev waiting : StateView
  waiting = with_standing (with_restart (with_waiting s n a) n a r) a (Wanted None)

  abbrev fresh : List Pair
  fresh = pair n a ∷ []

  abbrev course : Course
  course = course_of waiting [] fresh

  marked_so : with_mark s n a r ≡ waiting
  unfolding with_mark
  marked_so =
      ap (wanted_by_mark (with_restart (with_waiting s n a) n a r) n a) can.quiet
      ∙ ap (λ (b : Bool). cond b (with_restart (with_waiting s n a) n a r) waiting) can.spread

  sound : IsSound waiting
  sound = subst IsSound marked_so (sound_mark s n a r valid.sound node can.app can.up can.listed can.off)

  in_standings : a.0 < length s.standings
  in_standings = subst (λ (k : ℕ). a.0 < k) (sym valid.sound.shaped.standings) can.app

  in_waiting : n.0 < length s.waiting
  in_waiting = subst (λ (k : ℕ). n.0 < k) (sym valid.sound.shaped.waiting) node

  wanted_now : standing_of waiting a ≡ Wanted None
  wanted_now = at_set_here s.standings a.0 (Wanted None) Quiet in_standings

  -- another one stands as before
  stands_still : {P : Type 0} (b : App) (st now : Standing) → unwrap_or (slice_get (slice_set s.standings a.0 now) b.0) Quiet ≡ st
      → (standing_of s b ≡ st → P) → (b.0 ≡ a.0 → now ≡ st → P) → P
  stands_still b st now is before here = at_set s.standings a.0 b.0 now Quiet (λ same. before (sym same
      ∙ is)) (λ one new. here one (sym new ∙ is))

  not_local : {P : Type 0} (b : App) → (b.0 == a.0) ≡ true → is_local s.cluster b ≡ true → P
  not_local b same local =
      absurd (true≢false (sym local ∙ ap (λ (k : ℕ). is_local s.cluster (app_numbered k)) (same_number b.0 a.0 same) ∙ can.spread))

  -- ---- and its placement is the one move

  not_fresh : (m : Node) (b : App) → is_fresh fresh m b ≡ true → ((m.0 == n.0) ≡ true) × ((b.0 == a.0) ≡ true)
  not_fresh m b is = by ((m.0 == n.0) && (b.0 == a.0)) refl is
    where
      by : (p : Bool) → ((m.0 == n.0) && (b.0 == a.0)) ≡ p → (p || false) ≡ true → ((m.0 == n.0) ≡ true) × ((b.0 == a.0) ≡ true)
      by true is or = (left_true _ _ is, right_true (m.0 == n.0) _ is)
      by false is or = absurd (false≢true or)

  waited_before : {P : Type 0} (m : Node) (b : App) → waits_at waiting m b ≡ true → (waits_at s m b ≡ true → P)
      → (m.0 ≡ n.0 → (b.0 == a.0) ≡ true → P) → P
  waited_before m b is before new = put_has s.waiting n.0 m.0 a b is before new

  started_before : {P : Type 0} (m : Node) (b : App) (p : Bool) → runs_at s m b ≡ p → (p || waits_at waiting m b) ≡ true
      → (is_started s m b ≡ true → P) → (m.0 ≡ n.0 → (b.0 == a.0) ≡ true → P) → P
  started_before m b true runs is before new = before (or_left (runs_at s m b) (waits_at s m b) runs)
  started_before m b false runs is before new =
      waited_before m b is (λ waits. before (or_right (runs_at s m b) (waits_at s m b) waits)) new

  -- where it can run now it could before, or it is this node
  could_run : {P : Type 0} (m : Node) (b : App) → is_operational waiting b m ≡ true → (is_operational s b m ≡ true → P)
      → (m.0 ≡ n.0 → (b.0 == a.0) ≡ true → P) → P
  unfolding is_operational deps_run
  could_run m b is before new =
      let up : is_up (mode_of s m) ≡ true = left_true _ _ is in
      let rest = right_true (is_up (mode_of s m)) _ is in
      started_before m b (runs_at s m b) refl (left_true _ _ rest)
      (λ started. before (λ i. up i && (started i && right_true (is_started waiting m b) _ rest i))) new

  -- no other node is as good
  no_other : (m : Node) → m.0 ≢ n.0 → is_operational waiting a m ≡ true
      → comes_before (group_of s.cluster a n) (group_of s.cluster a m) ≡ true
  no_other m other is = could_run m a is (λ before. can.first m before) (λ here same. absurd (other here))

  can_now : is_operational waiting a n ≡ true
  unfolding is_operational deps_run
  can_now =
      let waits : waits_at waiting n a ≡ true = put_gives s.waiting n.0 a a in_waiting (same_refl a.0) in
      let started : is_started waiting n a ≡ true = or_right (runs_at waiting n a) (waits_at waiting n a) waits in
      λ i. can.up i && (started i && (can.may i && can.needs i))

  is_best : IsBest waiting a (is_operational waiting a) n
  is_best = record {
    listed = some_so (group_of s.cluster a n) ((λ i. sym can.spread i || is_some (group_of s.cluster a n)) ∙ can.listed);
    passes = can_now;
    first = λ m is. elim (cases_eq m.0 n.0) [
      | inl same ↦ ap (λ (k : ℕ). comes_before (group_of s.cluster a (numbered k)) (group_of s.cluster a n)) same
          ∙ not_before_itself (group_of s.cluster a n)
      | inr other ↦ before_not_behind (group_of s.cluster a n) (group_of s.cluster a m) (no_other m other is)
    ];
    fewest = λ m is same_group. elim (cases_eq m.0 n.0) [
      | inl same ↦ subst (λ (k : ℕ). running_count waiting n ≤ running_count waiting (numbered k)) (sym same) (omega arith)
      | inr other ↦ absurd (true≢false (sym (no_other m other is)
          ∙ ap (comes_before (group_of s.cluster a n)) same_group ∙ not_before_itself (group_of s.cluster a n)))
    ];
  }

  -- the best node is this one
  best_here : (m : Node) → IsBest waiting a (is_operational waiting a) m → m.0 ≡ n.0
  best_here m best = elim (cases_eq m.0 n.0) [
    | inl same ↦ same
    | inr other ↦ absurd (true≢false (sym (no_other m other best.passes) ∙ best.first n can_now))
  ]

  only_move : (move : Move) → IsEnabled waiting fresh move → move ≡ Placement a None n
  unfolding deps_run
  only_move (Local m b) is =
      waited_before m b is.2 (λ before. absurd (valid.still (Local m b) (is.0, is.1, before, is.3, is.4)))
      (λ here same. not_local b same is.1)
  only_move (Placement b from m) is =
      stands_still b (Wanted from) (Wanted None) is.1
      (λ before.
      could_run m b is.2.passes (λ could. both (is_operational s b m) could
      (never_left_wanted s b from valid.still is.0 before m is.2.listed))
      (λ here same.
      wanted_not_quiet from (standing_of s b)
      (ap (λ (k : ℕ). standing_of s (app_numbered k)) (same_number b.0 a.0 same) ∙ can.quiet) before))
      (λ one now.
      let here : m.0 ≡ n.0 = best_here m (subst (λ (k : ℕ). IsBest waiting (app_numbered k) (is_operational waiting
      (app_numbered k)) m) one is.2) in
      λ i. Placement (app_numbered (one i)) (wanted_is from now i) (numbered (here i)))
  only_move (Takeover b k m) is =
      let same : b.0 ≡ a.0 = same_number b.0 a.0 (not_fresh m b (all_called waiting fresh b k m is.2.passes).1).1 in
      wanted_not_running k (standing_of waiting a) wanted_now
      (sym (ap (λ (j : ℕ). standing_of waiting (app_numbered j)) same) ∙ is.1)

  starts_first : IsEnabled waiting fresh (Placement a None n)
  starts_first = (can.app, wanted_now, is_best)

  picks : (pick : Pick) → picked pick (nexts course) ≡ Some (Placement a None n)
  picks pick =
      fuel.by_option (picked pick (nexts course))
      (λ none. absurd ((still_if_none_enabled waiting fresh).0 (none_picked pick (nexts course) none) (Placement a None n) starts_first))
      (λ move is. is
      ∙ ap Some (only_move move ((next_are_first waiting fresh move).0 (contains_picked pick (nexts course) move is)).enabled))

  -- ---- behind it

  abbrev pub then : StateView
  then = moved_state waiting (Placement a None n)

  abbrev last : Course
  last = moved course (Placement a None n)

  waits_not : has (taken (put s.waiting n.0 a) n.0 a) n.0 a ≡ false
  waits_not = taken_not (put s.waiting n.0 a) n.0 a (subst (λ (k : ℕ). n.0 < k) (sym (length_put s.waiting n.0 a)) in_waiting)

  waited : (m : Node) (b : App) → waits_at then m b ≡ true → waits_at s m b ≡ true
  waited m b is =
      put_has s.waiting n.0 m.0 a b (taken_has (put s.waiting n.0 a) n.0 m.0 a b is) (λ before. before)
      (λ here same.
      let app : b.0 ≡ a.0 = same_number b.0 a.0 same in
      both (waits_at then m b) is ((λ i. has (taken (put s.waiting n.0 a) n.0 a) (here i) (app_numbered (app i))) ∙ waits_not))

  ran : {P : Type 0} (m : Node) (b : App) → runs_at then m b ≡ true → (runs_at s m b ≡ true → P) → (m.0 ≡ n.0 → (b.0 == a.0) ≡ true → P) → P
  ran m b is before new = put_has (taken s.running n.0 a) n.0 m.0 a b is (λ left. before (taken_has s.running n.0 m.0 a b left)) new

  abbrev unneeded_by : List Dep → Type 0
  unneeded_by deps = list_any (is_dep a) deps ≡ false

  dep_ran : (m : Node) (d : Dep) → (m.0 ≡ n.0 → is_dep a d ≡ false) → dep_runs then m d ≡ true → dep_runs s m d ≡ true
  dep_ran m (Listed b) apart is =
      ran m b is (λ before. before)
      (λ here same. both (a.0 == b.0) (ap (λ (k : ℕ). a.0 == k) (same_number b.0 a.0 same) ∙ same_refl a.0) (apart here))
  dep_ran m (Platform p) apart is = is

  or_parts : (p q : Bool) → (p || q) ≡ false → (p ≡ false) × (q ≡ false)
  or_parts true q is = absurd (false≢true (sym is))
  or_parts false q is = (refl, is)

  each_ran : (m : Node) (deps : List Dep) → (m.0 ≡ n.0 → unneeded_by deps) → list_all (dep_runs then m) deps ≡ true
      → list_all (dep_runs s m) deps ≡ true
  each_ran m [] apart is = refl
  each_ran m (d ∷ deps) apart is =
      let parts = and_parts (dep_runs then m d) _ is in
      λ i. dep_ran m d (λ here. (or_parts (is_dep a d) _ (apart here)).0) parts.0 i
      && each_ran m deps (λ here. (or_parts (is_dep a d) _ (apart here)).1) parts.1 i

  unneeded_there : (m : Node) (b : App) → waits_at s m b ≡ true → m.0 ≡ n.0 → unneeded_by (deps_of s.cluster b)
  unneeded_there m b waits here = can.unneeded b (sym (ap (λ (k : ℕ). waits_at s (numbered k) b) here) ∙ waits)

  -- an application that is to run runs nowhere
  wanted_runs_not : {P : Type 0} (m : Node) (b : App) (from : Option Node) → standing_of s b ≡ Wanted from → runs_at s m b ≡ true → P
  wanted_runs_not {P = P} m b from wanted runs = by (is_local s.cluster b) refl
    where
      by : (p : Bool) → is_local s.cluster b ≡ p → P
      by true is = wanted_not_quiet from (standing_of s b) (valid.sound.standing.local b is) wanted
      by false is = running_not_wanted m from (standing_of s b) (valid.sound.standing.stands m b is runs) wanted

  quiet_too : (b : App) → (b.0 == a.0) ≡ true → standing_of s b ≡ Quiet
  quiet_too b same = ap (λ (k : ℕ). standing_of s (app_numbered k)) (same_number b.0 a.0 same) ∙ can.quiet

  waits_before : (m : Node) (b : App) (from : Option Node) → standing_of s b ≡ Wanted from → (p : Bool) → runs_at then m b ≡ p
      → (p || waits_at then m b) ≡ true → waits_at s m b ≡ true
  waits_before m b from wanted true runs is =
      ran m b runs (wanted_runs_not m b from wanted) (λ here same. wanted_not_quiet from (standing_of s b) (quiet_too b same) wanted)
  waits_before m b from wanted false runs is = waited m b is

  could_run_then : (m : Node) (b : App) (from : Option Node) → standing_of s b ≡ Wanted from → is_operational then b m ≡ true
      → is_operational s b m ≡ true
  unfolding is_operational deps_run
  could_run_then m b from wanted is =
      let up : is_up (mode_of s m) ≡ true = left_true _ _ is in
      let rest = right_true (is_up (mode_of s m)) _ is in
      let waits : waits_at s m b ≡ true = waits_before m b from wanted (runs_at then m b) refl (left_true _ _ rest) in
      let more = right_true (is_started then m b) _ rest in
      let started : is_started s m b ≡ true = or_right (runs_at s m b) (waits_at s m b) waits in
      let may : is_allowed s m b ≡ true = left_true (is_allowed then m b) (deps_run then m b) more in
      let needs : list_all (dep_runs s m) (deps_of s.cluster b) ≡ true =
      each_ran m (deps_of s.cluster b) (unneeded_there m b waits) (right_true (is_allowed then m b) (deps_run then m b) more) in
      λ i. up i && (started i && (may i && needs i))

  -- it stands as running there, and the others as before
  stands_then : {P : Type 0} (b : App) (st : Standing) → standing_of then b ≡ st → (standing_of s b ≡ st → P)
      → (b.0 ≡ a.0 → Running n ≡ st → P) → P
  stands_then b st is before here =
      at_set (slice_set s.standings a.0 (Wanted None)) a.0 b.0 (Running n) Quiet
      (λ same. at_set s.standings a.0 b.0 (Wanted None) Quiet (λ one. before (sym one ∙ sym same ∙ is))
      (λ one new. here one (sym (runs_now b one) ∙ is)))
      (λ one new. here one (sym new ∙ is))
    where
      runs_now : (c : App) → c.0 ≡ a.0 → standing_of then c ≡ Running n
      runs_now c one =
          ap (λ (k : ℕ). standing_of then (app_numbered k)) one
          ∙ at_set_here (slice_set s.standings a.0 (Wanted None)) a.0 (Running n) Quiet
          (subst (λ (k : ℕ). a.0 < k) (sym (length-set s.standings a.0 (Wanted None))) in_standings)

  none_moves : NoneEnabled then fresh
  unfolding deps_run
  none_moves (Local m b) is =
      let waits : waits_at s m b ≡ true = waited m b is.2 in
      valid.still (Local m b) (is.0, is.1, waits, is.3, each_ran m (deps_of s.cluster b) (unneeded_there m b waits) is.4)
  none_moves (Placement b from m) is =
      stands_then b (Wanted from) is.1
      (λ before.
      both (is_operational s b m) (could_run_then m b from before is.2.passes)
      (never_left_wanted s b from valid.still is.0 before m is.2.listed))
      (λ one now. running_not_wanted n from (Running n) refl now)
  none_moves (Takeover b k m) is =
      let called = all_called then fresh b k m is.2.passes in
      let ours = not_fresh m b called.1 in
      let app : b.0 ≡ a.0 = same_number b.0 a.0 ours.1 in
      let here : m.0 ≡ n.0 = same_number m.0 n.0 ours.0 in
      stands_then b (Running k) is.1
      (λ before. running_not_quiet k (standing_of s b) (quiet_too b ours.1) before)
      (λ one now.
      let at : n ≡ k = same_running n k now in
      true≢false
      (sym called.0
      ∙ (λ i. comes_before (group_of s.cluster b (numbered (here i))) (group_of s.cluster b (sym at i)))
      ∙ not_before_itself (group_of s.cluster b n)))

  no_next : (pick : Pick) → picked pick (nexts last) ≡ None
  no_next pick = ap (picked pick) ((still_if_none_enabled then fresh).1 none_moves) ∙ sym (none_of_none pick)

  settles_so : (pick : Pick) → settled pick course ≡ last
  settles_so pick =
      ap waits_told (fuel.unrolled pick course (Placement a None n) sound.shaped (picks pick) ∙ fuel.ended pick last (no_next pick))
      ∙ ap (λ (b : Bool). cond b (told last (notice.Waits a n)) last) waits_not

  pub only_starts : (pick : Pick) → next s (event.Start n a r) pick ≡ outcome then (notice.Started a n kind.Normal None ∷ [])
  unfolding next followed
  only_starts pick =
      ap (λ (t : StateView). outcome_of (settled pick (ready_come_up (course_of t [] fresh)))) marked_so
      ∙ ap (λ (o : Course). outcome_of (settled pick o)) (none_comes_up s waiting refl refl valid.settled [] fresh)
      ∙ ap outcome_of (settles_so pick)
