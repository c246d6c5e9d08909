-- No timer is overdue.
use Rattle.std.proofs.Common.{◌≡◌, ◌<◌, ◌≤◌, ◌==◌, ◌&&◌, ℕ, Bool, true, false, cond, nat_lt, List, [], ◌∷◌, Option, Some, None, refl, sym, ap, subst, inl, inr, arith}
use Rattle.std.proofs.lemmas.Bool.{ltb-true, ltb-false, eqb-true, or_cases, or_parts, and_parts}
use Rattle.std.proofs.lemmas.List.Elements.{All-nil, All-cons, All-append, All-weaker, All-filter}
use Rattle.std.proofs.lemmas.Option.{none-some, same_Some}
use Rattle.rh_otp_net.specs.declared.timers.Timer.{Timer}
use Rattle.rh_otp_net.specs.Timers as timers
use Rattle.rh_otp_system.specs.State.{SystemView}
use Rattle.rh_otp_system.specs.Doing.{fired_next}
use Rattle.rh_otp_laws.specs.Acting.{IsNoneDueBefore}
use Rattle.rh_otp_laws.specs.Time.{OnlySetsTimers, TimersFireInTime}
use Rattle.rh_otp_laws.proofs.Reached.{StaysAlways, holds_always}
use Rattle.rh_otp_laws.proofs.Time.{only_sets, due_fire}
use Rattle.rh_otp_laws.proofs.Turn.{Turn}
use Rattle.rh_model.specs.declared.node.Node.{Node}

-- ---- what is due next

-- one time is before another, or it isn't
before : (x y : ℕ × ℕ) → timers.is_before x y ≡ true → x.0 ≤ y.0
before x y is =
    elim (or_cases (nat_lt x.0 y.0) (x.0 == y.0 && nat_lt x.1 y.1) is) [
      | inl less ↦ let first : x.0 < y.0 = ltb-true x.0 y.0 less in omega (arith, first)
      | inr both ↦ let at_once : x.0 ≡ y.0 = eqb-true x.0 y.0 (and_parts (x.0 == y.0) (nat_lt x.1 y.1) both).0 in omega (arith, at_once)
    ]

not_before : (x y : ℕ × ℕ) → timers.is_before x y ≡ false → y.0 ≤ x.0
not_before x y is = ltb-false x.0 y.0 (or_parts (nat_lt x.0 y.0) (x.0 == y.0 && nat_lt x.1 y.1) is).0

abbrev IsEarliest : ℕ → ℕ × ℕ → List Timer → Type 0
IsEarliest time least rows = (time ≤ least.0) × IsNoneDueBefore time rows

with_first : (time : ℕ) (t : Timer) (rows : List Timer) → time ≤ t.due → IsNoneDueBefore time rows → IsNoneDueBefore time (t ∷ rows)
with_first time t rows no_later none = All-cons (λ (u : Timer). time ≤ u.due) t rows no_later none

none_by : (b : Bool) (least : ℕ × ℕ) (t : Timer) (rows : List Timer) (time : ℕ × ℕ) → timers.is_before (t.due, t.step) least ≡ b
    → timers.earliest (cond b (Some (t.due, t.step)) (Some least)) rows ≡ Some time
    → ((x : ℕ × ℕ) → timers.earliest (Some x) rows ≡ Some time → IsEarliest time.0 x rows) → IsEarliest time.0 least (t ∷ rows)
none_by true least t rows time is found rest =
    let more : IsEarliest time.0 (t.due, t.step) rows = rest (t.due, t.step) found in
    let first : t.due ≤ least.0 = before (t.due, t.step) least is in
    (omega (arith, first, more.0), with_first time.0 t rows more.0 more.1)
none_by false least t rows time is found rest =
    let more : IsEarliest time.0 least rows = rest least found in
    let first : least.0 ≤ t.due = not_before (t.due, t.step) least is in
    (more.0, with_first time.0 t rows (omega (arith, first, more.0)) more.1)

-- the earliest of a time and of these timers is no later than any of them
none_before : (least : ℕ × ℕ) (rows : List Timer) (time : ℕ × ℕ) → timers.earliest (Some least) rows ≡ Some time
    → IsEarliest time.0 least rows
none_before least [] time found =
    let same : time.0 ≡ least.0 = sym (ap (λ (y : ℕ × ℕ). y.0) (same_Some least time found)) in
    (omega (arith, same), All-nil (λ (t : Timer). time.0 ≤ t.due))
none_before least (t ∷ rows) time found =
    none_by (timers.is_before (t.due, t.step) least) least t rows time refl found (λ x. none_before x rows time)

pub none_before_next : (rows : List Timer) (time : ℕ × ℕ) → timers.next_due rows ≡ Some time → IsNoneDueBefore time.0 rows
none_before_next [] time found = All-nil (λ (t : Timer). time.0 ≤ t.due)
none_before_next (t ∷ rows) time found =
    let more : IsEarliest time.0 (t.due, t.step) rows = none_before (t.due, t.step) rows time found in
    with_first time.0 t rows more.0 more.1

-- some timer is due next, where one is set
next_if : (b : Bool) (x y : ℕ × ℕ) (rows : List Timer) → timers.earliest (cond b (Some x) (Some y)) rows ≡ None
    → ((z : ℕ × ℕ) → timers.earliest (Some z) rows ≡ None → ⊥) → ⊥
next_if true x y rows none rest = rest x none
next_if false x y rows none rest = rest y none

pub some_next : (least : ℕ × ℕ) (rows : List Timer) → timers.earliest (Some least) rows ≡ None → ⊥
some_next least [] none = none-some least (sym none)
some_next least (t ∷ rows) none =
    next_if (timers.is_before (t.due, t.step) least) (t.due, t.step) least rows none (λ x. some_next x rows)

left_before : (rows : List Timer) (next : Option (ℕ × ℕ)) (time : ℕ) → IsNoneDueBefore time rows
    → IsNoneDueBefore time (timers.left_at next rows)
left_before rows None time none = none
left_before rows (Some at) time none = All-filter _ (λ (t : Timer). time ≤ t.due) rows none

-- ---- always

abbrev IsInTime : SystemView → Type 0
IsInTime s = IsNoneDueBefore s.clock s.timers

in_turn : (n : Node) (s t : SystemView) → Turn n s t → IsInTime s → IsInTime t
in_turn n s t turn none =
    let sets : OnlySetsTimers s t = only_sets n s t turn in
    let both : IsNoneDueBefore s.clock t.timers =
    subst (IsNoneDueBefore s.clock) (sym sets.behind)
    (All-append (λ (x : Timer). s.clock ≤ x.due) s.timers sets.more none
    (All-weaker (λ (x : Timer). s.clock < x.due) (λ (x : Timer). s.clock ≤ x.due) (λ x less. omega (arith, less)) sets.more sets.later)) in
    subst (λ (k : ℕ). IsNoneDueBefore k t.timers) (sym sets.clock) both

fires_in_time : (s : SystemView) (due step : ℕ) → timers.next_due s.timers ≡ Some (due, step) → IsInTime (fired_next due s)
fires_in_time s due step next =
    subst IsInTime (sym (due_fire s due))
    (left_before s.timers (timers.next_due s.timers) due (none_before_next s.timers (due, step) next))

always_in_time : StaysAlways IsInTime
always_in_time = record {
  first = λ s is. subst (IsNoneDueBefore s.clock) (sym is.timers) (All-nil (λ (t : Timer). s.clock ≤ t.due));
  stays = record {
    less = λ s messages none. none;
    begun = λ s n v there down none. none;
    turn = in_turn;
  };
  noted = λ s t same none.
      subst (λ (k : ℕ). IsNoneDueBefore k t.timers) (sym same.clock) (subst (IsNoneDueBefore s.clock) (sym same.timers) none);
  fired = λ s due step next none. fires_in_time s due step next;
  passed = λ s time on none before. none;
}

pub in_time : TimersFireInTime
in_time = holds_always IsInTime always_in_time
