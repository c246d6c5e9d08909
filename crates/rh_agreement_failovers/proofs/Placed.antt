-- By the manual's rules the one timer that is due by the end of a tick, that of a lost application, starts it at its best node, and that is
-- all, where nobody waits there for it.
use Rattle.std.proofs.Common.{◌≡◌, ◌≢◌, ◌<◌, ◌≤◌, ◌+◌, ◌==◌, ◌||◌, ◌&&◌, ℕ, zero, suc, Bool, true, false, cond, nat_le, is_some, List, [], ◌∷◌, length, slice_get, slice_set, unwrap_or, Option, None, Some, refl, sym, ap, subst, ◌∙◌, inl, inr, arith}
use Rattle.std.specs.List.{list_all, list_any}
use Rattle.std.proofs.lemmas.Bool.{and_parts, cases_eq, false≢true, ne_eqb, true≢false}
use Rattle.std.proofs.lemmas.Bool.Decides.{nat_tests}
use Rattle.std.proofs.lemmas.List.{length-set}
use Rattle.std.proofs.lemmas.Option.{none-some, same_Some}
use Rattle.rh_base.proofs.Truths.{both, or_right, same_number, same_refl}
use Rattle.rh_model.specs.ClusterView.{deps_of, group_of, numbered, app_numbered}
use Rattle.rh_model.specs.declared.node.App.{App}
use Rattle.rh_model.specs.declared.node.Node.{Node}
use Rattle.rh_model.specs.declared.settings.Dep.{Dep}
use Rattle.rh_model.specs.declared.settings.Dep.TheVariants.{Listed, Platform}
use Rattle.rh_rules.specs.declared.event.Event.TheVariants as event
use Rattle.rh_rules.specs.declared.notice.Move.{Move}
use Rattle.rh_rules.specs.declared.notice.Move.TheVariants.{Local, Placement, Takeover}
use Rattle.rh_rules.specs.declared.notice.Notice.{Notice}
use Rattle.rh_rules.specs.declared.notice.Notice.TheVariants as notice
use Rattle.rh_rules.specs.declared.pick.Pick.{Pick}
use Rattle.rh_rules.specs.Course.{Course, course_of, is_local}
use Rattle.rh_rules.specs.Moves.{comes_before, moved, moved_state}
use Rattle.rh_rules.specs.NodesEnd.{wanted_if_lost}
use Rattle.rh_rules.specs.NodesStart.{ready_come_up}
use Rattle.rh_rules.specs.Placing.{dep_runs, deps_run, is_operational, picked, start_kind}
use Rattle.rh_rules.specs.Settling.{IsBest, IsEnabled, NoneEnabled, nexts, settled, waits_told}
use Rattle.rh_rules.specs.Steps.{outcome, next}
use Rattle.rh_rules.specs.Time.{due_by, effect, taken_off, fired, go_on, fired_by, all_fired, ticked}
use Rattle.rh_state.specs.declared.status.Standing.{Standing}
use Rattle.rh_state.specs.declared.status.Standing.TheVariants.{Quiet, Wanted, Running, Lost}
use Rattle.rh_state.specs.declared.status.Timer.{Timer}
use Rattle.rh_state.specs.declared.status.Timer.TheVariants.{Failover}
use Rattle.rh_state.specs.Limits.{time_limit}
use Rattle.rh_state.specs.Setters.{with_standing, with_time, without_due}
use Rattle.rh_state.specs.Shape.{IsAppOf}
use Rattle.rh_state.specs.StateView.{StateView, earliest, is_up, mode_of, runs_at, waits_at, is_started, is_allowed, standing_of, running_count}
use Rattle.rh_trace.specs.Validity.{IsSound, IsValid}
use Rattle.rh_trace.proofs.Entries.{taken, taken_has, put_has}
use Rattle.rh_trace.proofs.NextFirsts.{next_are_first, still_if_none_enabled}
use Rattle.rh_trace.proofs.NextMoves.{left_true, right_true, all_called}
use Rattle.rh_trace.proofs.Places.{at_set, at_set_here}
use Rattle.rh_settle.proofs.FieldLaws.{never_left_wanted}
use Rattle.rh_settle.proofs.Fuel as fuel
use Rattle.rh_settle.proofs.Searches.{none_of_none, none_picked, contains_picked}
use Rattle.rh_step.proofs.TakenOff.{sound_effect}
use Rattle.rh_agreement.proofs.Quiet.{none_fires}
use Rattle.rh_agreement_calls.specs.Starts.{is_dep}
use Rattle.rh_agreement_calls.proofs.Fewer.{none_comes_up}
use Rattle.rh_agreement_calls.proofs.Started.{wanted_not_quiet, running_not_wanted}
use Rattle.rh_agreement_spread.proofs.Placed.{before_not_behind, not_before_itself, some_so}
use Rattle.rh_agreement_failovers.specs.Failovers.{CanFailOver}

-- ---- the timer

due_first : (limit : ℕ) (o : Option (ℕ × Timer)) (entry : ℕ × Timer) → due_by limit o ≡ Some entry → (o ≡ Some entry) × (entry.0 ≤ limit)
due_first limit None entry is = absurd (none-some entry is)
due_first limit (Some x) entry is = by (nat_le x.0 limit) refl is
  where
    by : (b : Bool) → nat_le x.0 limit ≡ b → cond b (Some x) None ≡ Some entry → (Some x ≡ Some entry) × (entry.0 ≤ limit)
    by true small same =
        let one : x ≡ entry = same_Some x entry same in
        (same, subst (λ (y : ℕ × Timer). y.0 ≤ limit) one (grind (arith, nat_tests, small)))
    by false small same = absurd (none-some entry same)

some_there : {A : Type 0} (xs : List A) (x : A) → slice_get xs 0 ≡ Some x → 0 < length xs
some_there [] x is = absurd (none-some x is)
some_there (y ∷ xs) x is = omega arith

-- one that is lost is one of the cluster's
lost_within : (m : Node) (standings : List Standing) (k : ℕ) → unwrap_or (slice_get standings k) Quiet ≡ Lost m → k < length standings
lost_within m [] k lost = absurd (cc lost)
lost_within m (st ∷ standings) zero lost = omega arith
lost_within m (st ∷ standings) (suc k) lost =
    let before : k < length standings = lost_within m standings k lost in
    omega (arith, before)

lost_not_wanted : {P : Type 0} (m : Node) (from : Option Node) (st : Standing) → st ≡ Lost m → st ≡ Wanted from → P
lost_not_wanted m from st lost wanted = absurd (clash (sym lost ∙ wanted))
  where
    clash : Lost m ≡ Wanted from → ⊥
    clash is = cc

lost_not_quiet : {P : Type 0} (m : Node) (st : Standing) → st ≡ Lost m → st ≡ Quiet → P
lost_not_quiet m st lost quiet = absurd (clash (sym lost ∙ quiet))
  where
    clash : Lost m ≡ Quiet → ⊥
    clash is = cc

wanted_is : (from other : Option Node) → Wanted from ≡ Wanted other → other ≡ from
wanted_is from other is = cc

module _ (s : StateView) (ms : ℕ) (n from : Node) (a : App) (valid : IsValid s) (within : s.time + ms ≤ time_limit)
    (can : CanFailOver ms s n from a) where
  -- ---- it is wanted then

  abbrev entry : ℕ × Timer
  entry = (can.due, Failover a)

  first_timer : (earliest s ≡ Some entry) × (can.due ≤ s.time + ms)
  first_timer = due_first (s.time + ms) (earliest s) entry can.timer

  abbrev wanted : StateView
  wanted = with_standing (with_time (without_due s (Failover a)) can.due) a (Wanted (Some from))

  abbrev course : Course
  course = course_of wanted [] []

  effect_so : effect (taken_off (course_of s [] []) entry) (Failover a) ≡ course
  effect_so =
      ap (λ (st : Standing). course_of (wanted_if_lost (with_time (without_due s (Failover a)) can.due) a st) [] []) can.lost

  pub sound : IsSound wanted
  sound =
      let soon : can.due ≤ s.time + ms = first_timer.1 in
      subst (λ (p : Course). IsSound p.state) effect_so
      (sound_effect (course_of s [] []) entry (omega (arith, soon, within)) valid.sound first_timer.0)

  in_standings : a.0 < length s.standings
  in_standings = lost_within from s.standings a.0 can.lost

  app : IsAppOf s.cluster a
  app = subst (λ (k : ℕ). a.0 < k) valid.sound.shaped.standings in_standings

  wanted_now : standing_of wanted a ≡ Wanted (Some from)
  wanted_now = at_set_here s.standings a.0 (Wanted (Some from)) Quiet in_standings

  spread : is_local s.cluster a ≡ false
  spread = by (is_local s.cluster a) refl
    where
      by : (p : Bool) → is_local s.cluster a ≡ p → p ≡ false
      by true is = lost_not_quiet from (standing_of s a) can.lost (valid.sound.standing.local a is)
      by false is = refl

  started : is_started s n a ≡ true
  unfolding is_operational
  started = left_true _ _ (right_true (is_up (mode_of s n)) _ can.can)

  -- another one stands as before
  stands_still : {P : Type 0} (b : App) (st now : Standing) → unwrap_or (slice_get (slice_set s.standings a.0 now) b.0) Quiet ≡ st
      → (standing_of s b ≡ st → P) → (b.0 ≡ a.0 → now ≡ st → P) → P
  stands_still b st now is before here = at_set s.standings a.0 b.0 now Quiet (λ same. before (sym same
      ∙ is)) (λ one new. here one (sym new ∙ is))

  -- ---- and its placement is the one move

  can_now : is_operational wanted a n ≡ true
  unfolding is_operational deps_run
  can_now = can.can

  no_other : (m : Node) → m.0 ≢ n.0 → is_operational wanted a m ≡ true
      → comes_before (group_of s.cluster a n) (group_of s.cluster a m) ≡ true
  unfolding is_operational deps_run
  no_other m other is = can.first m other is

  is_best : IsBest wanted a (is_operational wanted a) n
  is_best = record {
    listed = some_so (group_of s.cluster a n)
        ((λ i. sym spread i || is_some (group_of s.cluster a n)) ∙ valid.sound.standing.listed n a started);
    passes = can_now;
    first = λ m is. elim (cases_eq m.0 n.0) [
      | inl same ↦ ap (λ (k : ℕ). comes_before (group_of s.cluster a (numbered k)) (group_of s.cluster a n)) same
          ∙ not_before_itself (group_of s.cluster a n)
      | inr other ↦ before_not_behind (group_of s.cluster a n) (group_of s.cluster a m) (no_other m other is)
    ];
    fewest = λ m is same_group. elim (cases_eq m.0 n.0) [
      | inl same ↦ subst (λ (k : ℕ). running_count wanted n ≤ running_count wanted (numbered k)) (sym same) (omega arith)
      | inr other ↦ absurd (true≢false (sym (no_other m other is)
          ∙ ap (comes_before (group_of s.cluster a n)) same_group ∙ not_before_itself (group_of s.cluster a n)))
    ];
  }

  best_here : (m : Node) → IsBest wanted a (is_operational wanted a) m → m.0 ≡ n.0
  best_here m best = elim (cases_eq m.0 n.0) [
    | inl same ↦ same
    | inr other ↦ absurd (true≢false (sym (no_other m other best.passes) ∙ best.first n can_now))
  ]

  abbrev placement : Move
  placement = Placement a (Some from) n

  only_move : (move : Move) → IsEnabled wanted [] move → move ≡ placement
  unfolding is_operational deps_run
  only_move (Local m b) is = absurd (valid.still (Local m b) is)
  only_move (Placement b other m) is =
      stands_still b (Wanted other) (Wanted (Some from)) is.1
      (λ before. both (is_operational s b m) is.2.passes (never_left_wanted s b other valid.still is.0 before m is.2.listed))
      (λ one now.
      let here : m.0 ≡ n.0 = best_here m (subst (λ (k : ℕ). IsBest wanted (app_numbered k) (is_operational wanted
      (app_numbered k)) m) one is.2) in
      λ i. Placement (app_numbered (one i)) (wanted_is (Some from) other now i) (numbered (here i)))
  only_move (Takeover b k m) is = absurd (false≢true (all_called wanted [] b k m is.2.passes).1)

  starts_first : IsEnabled wanted [] placement
  starts_first = (app, wanted_now, is_best)

  pub picks : (pick : Pick) → picked pick (nexts course) ≡ Some placement
  picks pick =
      fuel.by_option (picked pick (nexts course))
      (λ none. absurd ((still_if_none_enabled wanted []).0 (none_picked pick (nexts course) none) placement starts_first))
      (λ move is. is
      ∙ ap Some (only_move move ((next_are_first wanted [] move).0 (contains_picked pick (nexts course) move is)).enabled))

  -- ---- behind it

  abbrev moved_then : StateView
  moved_then = moved_state wanted placement

  abbrev pub last : Course
  last = moved course placement

  waited : (m : Node) (b : App) → waits_at moved_then m b ≡ true → waits_at s m b ≡ true
  waited m b is = taken_has s.waiting n.0 m.0 a b is

  ran : {P : Type 0} (m : Node) (b : App) → runs_at moved_then m b ≡ true → (runs_at s m b ≡ true → P)
      → (m.0 ≡ n.0 → (b.0 == a.0) ≡ true → P) → P
  ran m b is before new = put_has (taken s.running n.0 a) n.0 m.0 a b is (λ left. before (taken_has s.running n.0 m.0 a b left)) new

  abbrev unneeded_by : List Dep → Type 0
  unneeded_by deps = list_any (is_dep a) deps ≡ false

  dep_ran : (m : Node) (d : Dep) → (m.0 ≡ n.0 → is_dep a d ≡ false) → dep_runs moved_then m d ≡ true → dep_runs s m d ≡ true
  dep_ran m (Listed b) apart is =
      ran m b is (λ before. before)
      (λ here same. both (a.0 == b.0) (ap (λ (k : ℕ). a.0 == k) (same_number b.0 a.0 same) ∙ same_refl a.0) (apart here))
  dep_ran m (Platform p) apart is = is

  or_parts : (p q : Bool) → (p || q) ≡ false → (p ≡ false) × (q ≡ false)
  or_parts true q is = absurd (false≢true (sym is))
  or_parts false q is = (refl, is)

  each_ran : (m : Node) (deps : List Dep) → (m.0 ≡ n.0 → unneeded_by deps) → list_all (dep_runs moved_then m) deps ≡ true
      → list_all (dep_runs s m) deps ≡ true
  each_ran m [] apart is = refl
  each_ran m (d ∷ deps) apart is =
      let parts = and_parts (dep_runs moved_then m d) _ is in
      λ i. dep_ran m d (λ here. (or_parts (is_dep a d) _ (apart here)).0) parts.0 i
      && each_ran m deps (λ here. (or_parts (is_dep a d) _ (apart here)).1) parts.1 i

  unneeded_there : (m : Node) (b : App) → waits_at s m b ≡ true → m.0 ≡ n.0 → unneeded_by (deps_of s.cluster b)
  unneeded_there m b waits here = can.unneeded b (sym (ap (λ (k : ℕ). waits_at s (numbered k) b) here) ∙ waits)

  -- an application that is to run runs nowhere
  wanted_runs_not : {P : Type 0} (m : Node) (b : App) (other : Option Node) → standing_of s b ≡ Wanted other → runs_at s m b ≡ true → P
  wanted_runs_not {P = P} m b other wants runs = by (is_local s.cluster b) refl
    where
      by : (p : Bool) → is_local s.cluster b ≡ p → P
      by true is = wanted_not_quiet other (standing_of s b) (valid.sound.standing.local b is) wants
      by false is = running_not_wanted m other (standing_of s b) (valid.sound.standing.stands m b is runs) wants

  lost_too : (b : App) → (b.0 == a.0) ≡ true → standing_of s b ≡ Lost from
  lost_too b same = ap (λ (k : ℕ). standing_of s (app_numbered k)) (same_number b.0 a.0 same) ∙ can.lost

  waits_before : (m : Node) (b : App) (other : Option Node) → standing_of s b ≡ Wanted other → (p : Bool) → runs_at moved_then m b ≡ p
      → (p || waits_at moved_then m b) ≡ true → waits_at s m b ≡ true
  waits_before m b other wants true runs is =
      ran m b runs (wanted_runs_not m b other wants) (λ here same. lost_not_wanted from other (standing_of s b) (lost_too b same) wants)
  waits_before m b other wants false runs is = waited m b is

  could_run_then : (m : Node) (b : App) (other : Option Node) → standing_of s b ≡ Wanted other → is_operational moved_then b m ≡ true
      → is_operational s b m ≡ true
  unfolding is_operational deps_run
  could_run_then m b other wants is =
      let up : is_up (mode_of s m) ≡ true = left_true _ _ is in
      let rest = right_true (is_up (mode_of s m)) _ is in
      let waits : waits_at s m b ≡ true = waits_before m b other wants (runs_at moved_then m b) refl (left_true _ _ rest) in
      let more = right_true (is_started moved_then m b) _ rest in
      let begun : is_started s m b ≡ true = or_right (runs_at s m b) (waits_at s m b) waits in
      let may : is_allowed s m b ≡ true = left_true (is_allowed moved_then m b) (deps_run moved_then m b) more in
      let needs : list_all (dep_runs s m) (deps_of s.cluster b) ≡ true =
      each_ran m (deps_of s.cluster b) (unneeded_there m b waits) (right_true (is_allowed moved_then m b) (deps_run moved_then m b) more) in
      λ i. up i && (begun i && (may i && needs i))

  -- it stands as running there, and the others as before
  stands_then : {P : Type 0} (b : App) (st : Standing) → standing_of moved_then b ≡ st → (standing_of s b ≡ st → P)
      → (b.0 ≡ a.0 → Running n ≡ st → P) → P
  stands_then b st is before here =
      at_set (slice_set s.standings a.0 (Wanted (Some from))) a.0 b.0 (Running n) Quiet
      (λ same. at_set s.standings a.0 b.0 (Wanted (Some from)) Quiet (λ one. before (sym one ∙ sym same ∙ is))
      (λ one new. here one (sym (runs_now b one) ∙ is)))
      (λ one new. here one (sym new ∙ is))
    where
      runs_now : (c : App) → c.0 ≡ a.0 → standing_of moved_then c ≡ Running n
      runs_now c one =
          ap (λ (k : ℕ). standing_of moved_then (app_numbered k)) one
          ∙ at_set_here (slice_set s.standings a.0 (Wanted (Some from))) a.0 (Running n) Quiet
          (subst (λ (k : ℕ). a.0 < k) (sym (length-set s.standings a.0 (Wanted (Some from)))) in_standings)

  none_moves : NoneEnabled moved_then []
  unfolding deps_run
  none_moves (Local m b) is =
      let waits : waits_at s m b ≡ true = waited m b is.2 in
      valid.still (Local m b) (is.0, is.1, waits, is.3, each_ran m (deps_of s.cluster b) (unneeded_there m b waits) is.4)
  none_moves (Placement b other m) is =
      stands_then b (Wanted other) is.1
      (λ before.
      both (is_operational s b m) (could_run_then m b other before is.2.passes)
      (never_left_wanted s b other valid.still is.0 before m is.2.listed))
      (λ one now. running_not_wanted n other (Running n) refl now)
  none_moves (Takeover b k m) is = false≢true (all_called moved_then [] b k m is.2.passes).1

  pub no_next : (pick : Pick) → picked pick (nexts last) ≡ None
  no_next pick = ap (picked pick) ((still_if_none_enabled moved_then []).1 none_moves) ∙ sym (none_of_none pick)

  settles_so : (pick : Pick) → settled pick course ≡ last
  settles_so pick =
      ap waits_told (fuel.unrolled pick course placement sound.shaped (picks pick) ∙ fuel.ended pick last (no_next pick))

  -- ---- the tick

  fired_so : (pick : Pick) → fired pick (course_of s [] []) entry ≡ last
  unfolding fired
  fired_so pick =
      ap (λ (o : Course). settled pick (ready_come_up o)) effect_so
      ∙ ap (settled pick) (none_comes_up s wanted refl refl valid.settled [] [])
      ∙ settles_so pick

  fires_one : (pick : Pick) (k : ℕ) → 0 < k → fired_by pick k (s.time + ms) (course_of s [] []) ≡ last
  unfolding fired_by
  fires_one pick zero some = absurd (omega (arith, some))
  fires_one pick (suc k) some =
      ap (λ (d : Option (ℕ × Timer)). go_on (course_of s [] []) d
      (λ (x : ℕ × Timer). fired_by pick k (s.time + ms) (fired pick (course_of s [] []) x))) can.timer
      ∙ ap (fired_by pick k (s.time + ms)) (fired_so pick)
      ∙ none_fires pick k (s.time + ms) last can.last

  abbrev pub then : StateView
  then = with_time moved_then (s.time + ms)

  abbrev pub notes : List Notice
  notes = notice.Started a n (start_kind s a (Some from) n) (Some from) ∷ []

  pub only_starts : (pick : Pick) → next s (event.Tick ms) pick ≡ outcome then notes
  unfolding next ticked all_fired
  only_starts pick =
      ap (λ (p : Course). outcome (with_time p.state (s.time + ms)) p.notices)
      (fires_one pick (length s.timers) (some_there s.timers entry first_timer.0))
      ∙ ap (λ (b : Bool). outcome then (notice.Started a n (start_kind s a (Some from) n) (cond b None (Some from)) ∷ []))
      (ne_eqb from.0 n.0 can.elsewhere)
