-- Behind a tick all that was due has fired, and time never goes back.
use Rattle.std.proofs.Common.{◌≡◌, ◌<◌, ◌≤◌, ℕ, zero, suc, Bool, true, false, cond, nat_le, List, [], ◌∷◌, Option, Some, None, refl, sym, ap, arith}
use Rattle.std.proofs.lemmas.Bool.{false≢true, leb-true, leb-false}
use Rattle.std.proofs.lemmas.List.Elements.{All-nil, All-head, All-tail, All-weaker}
use Rattle.std.proofs.lemmas.Option.{none-some, same_Some}
use Rattle.rh_otp_net.specs.declared.timers.Timer.{Timer}
use Rattle.rh_otp_net.specs.declared.order.Order.{Order}
use Rattle.rh_otp_net.specs.Timers as timers
use Rattle.rh_otp_system.specs.Doing.{fired_next, until_if, next_until, passed_by, passed, is_past_by, is_past, ticking, ticked_behind, ticked, is_ticked}
use Rattle.rh_otp_system.specs.Moves.{settled, is_settled_by}
use Rattle.rh_otp_system.specs.Resting.{rested, forgotten}
use Rattle.rh_otp_system.specs.State.{SystemView}
use Rattle.rh_otp_laws.specs.Acting.{acts, fires, passes, ticks, settles, rests, forgets, takes_up, IsNoneDueBefore}
use Rattle.rh_otp_laws.specs.Time.{IsNoneDueUntil, TicksEndInTime, TimeNeverGoesBack}
use Rattle.rh_otp_laws.proofs.Overdue.{none_before_next, some_next, in_time}
use Rattle.rh_otp_laws.proofs.Reached.{rested_noted, forgotten_noted}
use Rattle.rh_otp_laws.proofs.Time.{never_cancelled, due_fire}

-- the timers that fire are due next, and until the end
pub record IsNext (end due : ℕ) (next : Option (ℕ × ℕ)) : Type 0 where
  pub step : ℕ
  pub is : next ≡ Some (due, step)
  pub within : due ≤ end

next_by : (end due : ℕ) (time : ℕ × ℕ) (b : Bool) → nat_le time.0 end ≡ b → cond b (Some time.0) None ≡ Some due
    → IsNext end due (Some time)
next_by end due time true within is =
    let same : time.0 ≡ due = same_Some time.0 due is in
    let no_later : time.0 ≤ end = leb-true time.0 end within in
    record { step = time.1; is = λ i. Some (same i, time.1); within = omega (arith, same, no_later) }
next_by end due time false within is = absurd (none-some due is)

pub is_next : (end due : ℕ) (next : Option (ℕ × ℕ)) → until_if end next ≡ Some due → IsNext end due next
is_next end due None is = absurd (none-some due is)
is_next end due (Some time) is = next_by end due time (nat_le time.0 end) refl is

none_by : (end : ℕ) (time : ℕ × ℕ) (b : Bool) → nat_le time.0 end ≡ b → cond b (Some time.0) None ≡ None → end < time.0
none_by end time true within is = absurd (none-some time.0 (sym is))
none_by end time false within is = leb-false time.0 end within

-- where none is due until the end all are due later
pub none_until : (end : ℕ) (rows : List Timer) (next : Option (ℕ × ℕ)) → timers.next_due rows ≡ next → until_if end next ≡ None
    → IsNoneDueUntil end rows
none_until end [] next is none = All-nil (λ (t : Timer). end < t.due)
none_until end (t ∷ rows) None is none = absurd (some_next (t.due, t.step) rows is)
none_until end (t ∷ rows) (Some time) is none =
    let late : end < time.0 = none_by end time (nat_le time.0 end) refl none in
    All-weaker (λ (u : Timer). time.0 ≤ u.due) (λ (u : Timer). end < u.due) (λ u no_later. omega (arith, late, no_later)) (t ∷ rows)
    (none_before_next (t ∷ rows) time is)

-- ---- a tick

-- all that was due until the end has fired
abbrev IsOver : ℕ → SystemView → Type 0
IsOver end s = IsNoneDueUntil end s.timers

over_by : (times end most : ℕ) (order : Order) (s : SystemView) (b : Bool) → cond b (is_past times end most order s) false ≡ true
    → ((t : SystemView) → is_past times end most order t ≡ true → IsOver end (passed times end most order t))
    → IsOver end (cond b (passed times end most order s) s)
over_by times end most order s true past rest = rest s past
over_by times end most order s false past rest = absurd (false≢true past)

over_if : (times end most : ℕ) (order : Order) (s : SystemView) (next : Option ℕ) → next_until end s ≡ next
    → is_past_by (is_past times end most order) most order next s ≡ true
    → ((t : SystemView) → is_past times end most order t ≡ true → IsOver end (passed times end most order t))
    → IsOver end (passed_by (passed times end most order) most order next s)
over_if times end most order s None is past rest = none_until end s.timers (timers.next_due s.timers) refl is
over_if times end most order s (Some due) is past rest =
    over_by times end most order (settled most order (fired_next due s)) (is_settled_by most order (fired_next due s)) past rest

all_over : (times end most : ℕ) (order : Order) (s : SystemView) → is_past times end most order s ≡ true → IsOver end (passed times end most order s)
all_over zero end most order s past = absurd (false≢true past)
all_over (suc times) end most order s past = over_if times end most order s (next_until end s) refl past (all_over times end most order)

ticked_by : (end most : ℕ) (order : Order) (b : Bool) (s : SystemView) → cond b (is_past most end most order s) false ≡ true
    → ((ticked_behind end most order b s).clock ≡ end) × IsOver end (ticked_behind end most order b s)
ticked_by end most order true s past = (refl, all_over most end most order s past)
ticked_by end most order false s past = absurd (false≢true past)

pub ticks_in_time : TicksEndInTime
unfolding ticked is_ticked
ticks_in_time end most order s past = ticked_by end most order (is_settled_by most order (record s { is_ticking = true })) (ticking most order s) past

-- ---- time never goes back

no_earlier_if : (b : Bool) (clock : ℕ) (x y : ℕ × ℕ) (rows : List Timer) (time : ℕ × ℕ) → clock ≤ x.0 → clock ≤ y.0
    → timers.earliest (cond b (Some x) (Some y)) rows ≡ Some time
    → ((z : ℕ × ℕ) → clock ≤ z.0 → timers.earliest (Some z) rows ≡ Some time → clock ≤ time.0) → clock ≤ time.0
no_earlier_if true clock x y rows time first second found rest = rest x first found
no_earlier_if false clock x y rows time first second found rest = rest y second found

no_earlier : (clock : ℕ) (least : ℕ × ℕ) (rows : List Timer) (time : ℕ × ℕ) → clock ≤ least.0 → IsNoneDueBefore clock rows
    → timers.earliest (Some least) rows ≡ Some time → clock ≤ time.0
no_earlier clock least [] time first none found =
    let same : least.0 ≡ time.0 = ap (λ (y : ℕ × ℕ). y.0) (same_Some least time found) in
    omega (arith, first, same)
no_earlier clock least (t ∷ rows) time first none found =
    no_earlier_if (timers.is_before (t.due, t.step) least) clock (t.due, t.step) least rows time
    (All-head (λ (u : Timer). clock ≤ u.due) t rows none) first found
    (λ z at. no_earlier clock z rows time at (All-tail (λ (u : Timer). clock ≤ u.due) t rows none))

next_no_earlier : (clock : ℕ) (rows : List Timer) (time : ℕ × ℕ) → IsNoneDueBefore clock rows → timers.next_due rows ≡ Some time
    → clock ≤ time.0
next_no_earlier clock [] time none found = absurd (none-some time found)
next_no_earlier clock (t ∷ rows) time none found =
    no_earlier clock (t.due, t.step) rows time (All-head (λ (u : Timer). clock ≤ u.due) t rows none)
    (All-tail (λ (u : Timer). clock ≤ u.due) t rows none) found

pub never_back : TimeNeverGoesBack
never_back _ _ reached (acts s t one) =
    let same : t.clock ≡ s.clock = (never_cancelled s t one).clock in
    omega (arith, same)
never_back _ _ reached (fires s due step next) =
    let same : (fired_next due s).clock ≡ due = ap (λ (t : SystemView). t.clock) (due_fire s due) in
    let later : s.clock ≤ due = next_no_earlier s.clock s.timers (due, step) (in_time s reached) next in
    omega (arith, same, later)
never_back _ _ reached (passes s time on none) = on
never_back _ _ reached (ticks s ticking) = omega arith
never_back _ _ reached (settles s) = omega arith
never_back _ _ reached (rests s) = let same : (rested s).clock ≡ s.clock = (rested_noted s).clock in omega (arith, same)
never_back _ _ reached (forgets s) = let same : (forgotten s).clock ≡ s.clock = (forgotten_noted s).clock in omega (arith, same)
never_back _ _ reached (takes_up s cells told ends_soon quiet same) = omega arith
