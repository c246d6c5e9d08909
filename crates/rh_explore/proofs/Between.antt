-- Nothing comes of time that passes between two timers: what is met behind a tick is met at once, or behind the tick to the last timer
-- that is due by its end.
use Rattle.std.proofs.Common.{◌≡◌, ◌<◌, ◌≤◌, ◌+◌, ◌⊎◌, ◌&&◌, ◌||◌, ℕ, zero, suc, true, cond, nat_le, List, [], ◌∷◌, slice_get}
use Rattle.std.proofs.Common.{Some, None, is_none, All, Any, inl, inr, refl, sym, ap, ◌∙◌, arith}
use Rattle.std.specs.List.{list_any}
use Rattle.std.proofs.lemmas.Bool.Decides.{leb_tells, nat_tests}
use Rattle.std.proofs.lemmas.List.Elements.{All-cons}
use Rattle.std.proofs.lemmas.List.Folds.{Any-from_list_any, list_any-from_Any}
use Rattle.rh_base.proofs.Lists.{cases}
use Rattle.rh_base.proofs.Truths.{or_left, or_right}
use Rattle.rh_state.specs.declared.status.Timer.{Timer}
use Rattle.rh_state.specs.Limits.{time_limit}
use Rattle.rh_state.specs.StateView.{StateView, earliest}
use Rattle.rh_rules.specs.declared.event.Event.TheVariants.{Tick}
use Rattle.rh_rules.specs.declared.pick.Pick.{Pick}
use Rattle.rh_rules.specs.Course.{Course, course_of}
use Rattle.rh_rules.specs.Refusals.{refused}
use Rattle.rh_rules.specs.Steps.{next}
use Rattle.rh_rules.specs.Time.{due_by, fired, fired_by, all_fired, ticked}
use Rattle.rh_trace.specs.Validity.{IsSound, IsValid}
use Rattle.rh_trace.proofs.NextMoves.{left_true, right_true}
use Rattle.rh_step.specs.Runs.{step}
use Rattle.rh_step.proofs.Fuel.{timer_count, goes, by_found, due_later, due_is_first, sound_fired, all_fired_end}
use Rattle.rh_explore.specs.declared.asking.Ask.{Ask}
use Rattle.rh_explore.specs.Asking.{is_met, is_met_at, is_met_by}
use Rattle.rh_explore.specs.Laws.{IsMetBehindATick, IsMetInTime}
use Rattle.rh_explore.specs.Moves.{ms_to, wait_for}
use Rattle.rh_explore.proofs.Alikes.{at_most, met_same, tick_accepted}
use Rattle.rh_explore.proofs.TimersLeft.{fired_keeps}

-- ---- where no timer is due between two moments, the same have fired by the one as by the other
-- a timer is due by the first of them, or behind the second
abbrev IsBeside : ℕ → ℕ → ℕ × Timer → Type 0
IsBeside low high entry = (entry.0 ≤ low) ⊎ (high < entry.0)

module _ (low high : ℕ) (le : low ≤ high) (within : high ≤ time_limit) (pick : Pick) where
  due_alike : (timers : List (ℕ × Timer)) → All (IsBeside low high) timers → due_by low (slice_get timers 0) ≡ due_by high (slice_get timers 0)
  due_alike [] beside = refl
  due_alike (x ∷ xs) beside =
      let same : nat_le x.0 low ≡ nat_le x.0 high = elim (beside 0 x (omega arith)) [
        | inl early ↦ grind (arith, nat_tests, early, le)
        | inr late ↦ grind (arith, nat_tests, late, le)
      ] in
      ap (λ b. cond b (Some x) None) same

  fired_alike : (k : ℕ) (o : Course) → IsSound o.state → All (IsBeside low high) o.state.timers → fired_by pick k low o ≡ fired_by pick k high o
  unfolding fired_by
  fired_alike zero o sound beside = refl
  fired_alike (suc k) o sound beside =
      let same = due_alike o.state.timers beside in
      by_found (due_by high (earliest o.state))
      (λ none. ap (goes pick k low o) (same ∙ none) ∙ sym (ap (goes pick k high o) none))
      (λ entry is. ap (goes pick k low o) (same ∙ is)
      ∙ fired_alike k (fired pick o entry) (sound_fired pick high o entry within sound is)
      (fired_keeps (IsBeside low high) pick o entry sound (due_is_first high o.state entry is) beside)
      ∙ sym (ap (goes pick k high o) is))

  all_alike : (o : Course) → IsSound o.state → All (IsBeside low high) o.state.timers → all_fired pick low o ≡ all_fired pick high o
  unfolding all_fired
  all_alike o sound beside = fired_alike (timer_count o) o sound beside

-- ---- the last timer that is due by a limit
abbrev IsLast : ℕ → List (ℕ × Timer) → ℕ × Timer → Type 0
IsLast limit xs entry = (entry.0 ≤ limit) × All (IsBeside entry.0 limit) xs

last_first : (limit : ℕ) (x : ℕ × Timer) (xs : List (ℕ × Timer)) → x.0 ≤ limit → All (IsBeside x.0 limit) xs → Any (IsLast limit (x ∷ xs)) (x ∷ xs)
last_first limit x xs due beside = (0, x, omega arith, refl, (due, All-cons (IsBeside x.0 limit) x xs (inl (omega arith)) beside))

last_behind : (limit : ℕ) (x : ℕ × Timer) (xs : List (ℕ × Timer)) → (last : Any (IsLast limit xs) xs) → IsBeside last.1.0 limit x
    → Any (IsLast limit (x ∷ xs)) (x ∷ xs)
last_behind limit x xs last beside =
    (suc last.0, last.1, omega (arith, last.2), last.3, (last.4.0, All-cons (IsBeside last.1.0 limit) x xs beside last.4.1))

-- of a timer that is due and the last one behind it the later one
later_one : (limit : ℕ) (x : ℕ × Timer) (xs : List (ℕ × Timer)) → x.0 ≤ limit → Any (IsLast limit xs) xs → Any (IsLast limit (x ∷ xs)) (x ∷ xs)
later_one limit x xs due last = elim (leb_tells x.0 last.1.0) [
  | inl before ↦ last_behind limit x xs last (inl before.1)
  | inr behind ↦ last_first limit x xs due (λ k d l. elim (last.4.1 k d l) [
    | inl early ↦ inl (omega (arith, early, behind.1))
    | inr late ↦ inr late
  ])
]

-- all are due later, or one is the last
last_due : (limit : ℕ) (xs : List (ℕ × Timer)) → All (λ (entry : ℕ × Timer). limit < entry.0) xs ⊎ Any (IsLast limit xs) xs
last_due limit [] = inl (λ k d l. absurd (omega arith))
last_due limit (x ∷ xs) = elim (leb_tells x.0 limit) [
  | inl due ↦ elim (last_due limit xs) [
    | inl later ↦ inr (last_first limit x xs due.1 (λ k d l. inr (later k d l)))
    | inr last ↦ inr (later_one limit x xs due.1 last)
  ]
  | inr undue ↦ elim (last_due limit xs) [
    | inl later ↦ inl (All-cons (λ (entry : ℕ × Timer). limit < entry.0) x xs undue.1 later)
    | inr last ↦ inr (last_behind limit x xs last (inr undue.1))
  ]
]

-- ---- what is met behind a tick
-- all that is due by the end of a tick has fired
abbrev all_passed : Pick → StateView → ℕ → Course
all_passed pick s ms = all_fired pick (s.time + ms) (course_of s [] [])

-- the clock itself isn't asked
met_behind : (pick : Pick) (ask : Ask) (s : StateView) (ms : ℕ) → is_met ask (step pick s (Tick ms)) ≡ is_met ask (all_passed pick s ms).state
unfolding step next ticked
met_behind pick ask s ms =
    let t : StateView = (all_passed pick s ms).state in
    met_same t (s.time + ms) t.incarnations t.kinds t.timers ask

below : (n m : ℕ) → n ≤ m → nat_le n m ≡ true
below n m le = grind (arith, nat_tests, le)

module _ (s : StateView) (pick : Pick) (ask : Ask) (ms : ℕ) where
  -- one that is met at a timer is met behind a tick
  at_timer : Any (λ (entry : ℕ × Timer). is_met_at pick ask ms s entry ≡ true) s.timers → IsMetBehindATick pick ask ms s
  at_timer found =
      let entry : ℕ × Timer = found.1 in
      let e = wait_for s entry in
      let soon = left_true (nat_le (ms_to s entry) ms) (is_none (refused s e) && is_met ask (step pick s e)) found.4 in
      let rest = right_true (nat_le (ms_to s entry) ms) (is_none (refused s e) && is_met ask (step pick s e)) found.4 in
      (ms_to s entry, omega arith, at_most (ms_to s entry) ms soon, right_true (is_none (refused s e)) (is_met ask (step pick s e)) rest)

  in_time : is_met_by pick ask (Some ms) s ≡ true → (is_met ask s ≡ true) ⊎ IsMetBehindATick pick ask ms s
  in_time met = cases (is_met ask s)
      (λ now. inl now)
      (λ later. inr (at_timer (Any-from_list_any (is_met_at pick ask ms s) s.timers
      (sym (ap (λ b. b || list_any (is_met_at pick ask ms s) s.timers) later) ∙ met))))

  at_once : is_met ask s ≡ true → is_met_by pick ask (Some ms) s ≡ true
  at_once now = or_left (is_met ask s) (list_any (is_met_at pick ask ms s) s.timers) now

  module _ (valid : IsValid s) (may : s.time + ms ≤ time_limit) (t : ℕ) (some : 0 < t) (few : t ≤ ms)
      (met : is_met ask (step pick s (Tick t)) ≡ true) where
    -- where no timer is due it was met before
    none_fires : All (λ (entry : ℕ × Timer). s.time + t < entry.0) s.timers → is_met ask s ≡ true
    none_fires later =
        ap (λ (p : Course). is_met ask p.state) (sym (all_fired_end pick (s.time + t) (course_of s [] []) (due_later (s.time + t) s.timers later)))
        ∙ sym (met_behind pick ask s t) ∙ met

    -- behind the tick to the last timer that is due the rest of the time changes nothing
    at_last : (entry : ℕ × Timer) → IsLast (s.time + t) s.timers entry → is_met_at pick ask ms s entry ≡ true
    at_last entry last =
        let due = last.0 in
        let long : ms_to s entry ≤ t = omega (arith, due, some) in
        let beside : All (IsBeside (s.time + ms_to s entry) (s.time + t)) s.timers = λ k d l. elim (last.1 k d l) [
          | inl early ↦ inl (omega (arith, early))
          | inr late ↦ inr late
        ] in
        let same = all_alike (s.time + ms_to s entry) (s.time + t) (omega (arith, long)) (omega (arith, few, may)) pick (course_of s [] [])
        valid.sound beside in
        let soon = below (ms_to s entry) ms (omega (arith, long, few)) in
        let fine = ap is_none (tick_accepted s (ms_to s entry) (omega arith) (omega (arith, long, few, may))) in
        let after : is_met ask (step pick s (wait_for s entry)) ≡ true =
        met_behind pick ask s (ms_to s entry) ∙ ap (λ (p : Course). is_met ask p.state) same ∙ sym (met_behind pick ask s t) ∙ met in
        λ i. soon i && (fine i && after i)

    by_tick : is_met_by pick ask (Some ms) s ≡ true
    by_tick = elim (last_due (s.time + t) s.timers) [
      | inl later ↦ at_once (none_fires later)
      | inr last ↦ or_right (is_met ask s) (list_any (is_met_at pick ask ms s) s.timers)
          (list_any-from_Any (is_met_at pick ask ms s) s.timers (last.0, last.1, last.2, last.3, at_last last.1 last.4))
    ]

pub met_in_time : IsMetInTime
met_in_time s pick ask ms valid may = (
  in_time s pick ask ms,
  λ h. elim h [
    | inl now ↦ at_once s pick ask ms now
    | inr tick ↦ by_tick s pick ask ms valid may tick.0 tick.1 tick.2 tick.3
  ],
)
