-- Two states that are alike go on alike.
use Rattle.std.proofs.Common.{◌≡◌, ◌≤◌, ◌+◌, ℕ, suc, List, [], ◌∷◌, map, All, refl, sym, ap, ap₂, ◌∙◌, arith, add_comm}
use Rattle.rh_state.specs.declared.status.Timer.{Timer}
use Rattle.rh_state.specs.StateView.{StateView}
use Rattle.rh_rules.specs.declared.event.Event.{Event}
use Rattle.rh_rules.specs.declared.pick.Pick.{Pick}
use Rattle.rh_rules.specs.Steps.{Outcome, next}
use Rattle.rh_keys.specs.Shifts.{seen_from, timeless, NoneIsOverdue}
use Rattle.rh_keys.specs.ShiftLaws.{NextCommutesWithShifts}
use Rattle.rh_keys.proofs.Passing.{next_later}
use Rattle.rh_keys.proofs.Shifting.{later, shifted}

-- ---- a state is a timeless one, shifted to its time
back_entry : (now : ℕ) (entry : ℕ × Timer) → now ≤ entry.0 → later now (seen_from now entry) ≡ entry
back_entry now (due, t) h = ap (λ k. (k, t)) (omega (arith, h))

seen_entry : (d now : ℕ) (entry : ℕ × Timer) → seen_from (d + now) (later d entry) ≡ seen_from now entry
seen_entry d now (due, t) = ap (λ k. (k, t)) (omega arith)

still_entry : (entry : ℕ × Timer) → later 0 entry ≡ entry
still_entry (due, t) = ap (λ k. (k, t)) (omega arith)

still : (timers : List (ℕ × Timer)) → map (later 0) timers ≡ timers
still [] = refl
still (x ∷ xs) = ap₂ (λ y ys. y ∷ ys) (still_entry x) (still xs)

seen_later : (d now : ℕ) (timers : List (ℕ × Timer)) → map (seen_from (d + now)) (map (later d) timers) ≡ map (seen_from now) timers
seen_later d now [] = refl
seen_later d now (x ∷ xs) = ap₂ (λ y ys. y ∷ ys) (seen_entry d now x) (seen_later d now xs)

timeless_later : (d : ℕ) (s : StateView) → timeless (shifted d s) ≡ timeless s
timeless_later d s = λ i. record (timeless s) { timers = seen_later d s.time s.timers i }

back : (now : ℕ) (timers : List (ℕ × Timer)) → All (λ (entry : ℕ × Timer). now ≤ entry.0) timers → map (later now) (map (seen_from now) timers) ≡ timers
back now [] h = refl
back now (x ∷ xs) h = ap₂ (λ y ys. y ∷ ys) (back_entry now x (h 0 x (omega arith))) (back now xs (λ k d l. h (suc k) d (omega (arith, l))))

begun : (s : StateView) → NoneIsOverdue s → shifted 0 s ≡ shifted s.time (timeless s)
begun s h = λ i. record (timeless s) {
  time = add_comm 0 s.time i;
  timers = (still s.timers ∙ sym (back s.time s.timers h)) i;
}

-- ---- so its step is that of the timeless one
state_timeless : (s : StateView) (e : Event) (pick : Pick) → NoneIsOverdue s → timeless (next s e pick).state ≡ timeless (next (timeless s) e pick).state
state_timeless s e pick h =
    sym (timeless_later 0 (next s e pick).state)
    ∙ sym (ap (λ (p : Outcome). timeless p.state) (next_later 0 s e pick))
    ∙ ap (λ (u : StateView). timeless (next u e pick).state) (begun s h)
    ∙ ap (λ (p : Outcome). timeless p.state) (next_later s.time (timeless s) e pick)
    ∙ timeless_later s.time (next (timeless s) e pick).state

notices_timeless : (s : StateView) (e : Event) (pick : Pick) → NoneIsOverdue s → (next s e pick).notices ≡ (next (timeless s) e pick).notices
notices_timeless s e pick h =
    sym (ap (λ (p : Outcome). p.notices) (next_later 0 s e pick))
    ∙ ap (λ (u : StateView). (next u e pick).notices) (begun s h)
    ∙ ap (λ (p : Outcome). p.notices) (next_later s.time (timeless s) e pick)

pub next_commutes_with_shifts : NextCommutesWithShifts
next_commutes_with_shifts s t e pick h k alike = (
  state_timeless s e pick h ∙ ap (λ (u : StateView). timeless (next u e pick).state) alike ∙ sym (state_timeless t e pick k),
  notices_timeless s e pick h ∙ ap (λ (u : StateView). (next u e pick).notices) alike ∙ sym (notices_timeless t e pick k),
)
