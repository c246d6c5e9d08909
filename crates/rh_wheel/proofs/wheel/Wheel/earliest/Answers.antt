use Rattle.std.proofs.Common.{◌≡◌, ◌↔◌, ◌∙◌, ℕ, List, [], ◌∷◌, IsNone, rules, tests, refl, slice_get}
use Rattle.std.specs.Option.{option_and_then}
use Rattle.rh_wheel.specs.Stored.{listed}
use Rattle.rh_wheel.proofs.Finding.{least-first, due_in-slice_get, IfSome-slice_get}
use Rattle.rh_wheel.proofs.Slots.{IsFiringOrder-listed}
use Rattle.rh_wheel.proofs.Earliest.{least, first_at, earliest-listed}
use Rattle.rh_wheel.proofs.wheel.Wheel.earliest.Goals as goal

first : (c : goal.After-and_then) → c.and_then.result ≡ slice_get (listed c.args.self.now) 0
first c =
    let chosen : c.and_then.result ≡ option_and_then (first_at c.args.self.now) c.least_due.result = search (rules, tests) in
    let chosen_from : c.and_then.result ≡ option_and_then (first_at c.args.self.now) (least c.self.inside.dues.items) =
    rw (c.least_due.ensures, c.as_slice.ensures.value) at chosen in
    rw (← c.self.view_is) (rw (← c.self.view_is) at chosen_from ∙ earliest-listed _ c.self.invariant.formed)

pub returns-clause-first : goal.returns-clause-first
returns-clause-first c = first c

pub returns-clause-none : goal.returns-clause-none
returns-clause-none c = rw (first c) (empty (listed c.args.self.now))
  where
    empty : (xs : List (ℕ × ℕ)) → IsNone (slice_get xs 0) ↔ (xs ≡ [])
    empty [] = (λ h. refl, λ e. refl)
    empty (x ∷ xs) = (λ h. absurd (cc h), λ e. absurd (cc e))

pub returns-clause-least : goal.returns-clause-least
returns-clause-least c = rw (first c, ← c.self.view_is) (least-first (listed _) (IsFiringOrder-listed _ c.self.invariant.formed).by_due)

pub returns-clause-armed : goal.returns-clause-armed
returns-clause-armed c = rw (first c, ← c.self.view_is) (due_in-slice_get (listed _) 0 (IsFiringOrder-listed _ c.self.invariant.formed).once)

pub returns-clause-numbered : goal.returns-clause-numbered
returns-clause-numbered c = rw (first c, ← c.self.view_is) (IfSome-slice_get _ (listed _) 0 (IsFiringOrder-listed _ c.self.invariant.formed).numbered)

pub returns-clause-order : goal.returns-clause-order
returns-clause-order c = rw (← c.self.view_is) (IsFiringOrder-listed _ c.self.invariant.formed)
