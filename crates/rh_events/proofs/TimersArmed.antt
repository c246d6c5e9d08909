-- A timer that is set: its entry goes behind the last one that isn't due later.
use Rattle.std.proofs.Common.{◌≡◌, ◌≤◌, ℕ, zero, suc, Bool, true, false, cond, nat_le, List, [], ◌∷◌, All, refl, sym, ap, ◌∙◌, inl, inr, arith}
use Rattle.std.proofs.lemmas.Bool.Decides.{leb_tells}
use Rattle.std.proofs.lemmas.List.Kept.{AllPairs-cons}
use Rattle.rh_wheel.specs.Firing.{behind}
use Rattle.rh_wheel.proofs.Arming.{All-behind}
use Rattle.rh_state.specs.declared.status.Timer.{Timer}
use Rattle.rh_state.specs.Timers.{same_timer}
use Rattle.rh_trace.proofs.TimersToldApart.{same_self, is_set, IsOnce, IsInOrder, same_timer-sym, set-cons, unset-cons, differs_from_unset}

pub once-behind : (new : ℕ × Timer) (xs : List (ℕ × Timer)) → is_set new.1 xs ≡ false → IsOnce xs → IsOnce (behind new xs)
once-behind new [] unset once = AllPairs-cons (λ x y. same_timer x.1 y.1 ≡ false) new [] (λ k d l. absurd (omega arith)) once
once-behind new (x ∷ xs) unset once =
    by (nat_le x.0 new.0) (once-behind new xs (unset-cons new.1 x xs unset).1 (λ i j d a b. once (suc i) (suc j) d (omega arith) (omega arith)))
  where
    by : (b : Bool) → IsOnce (behind new xs) → IsOnce (cond b (x ∷ behind new xs) (new ∷ x ∷ xs))
    by true later =
        AllPairs-cons (λ x y. same_timer x.1 y.1 ≡ false) x (behind new xs)
        (All-behind (λ y. same_timer x.1 y.1 ≡ false) new xs (same_timer-sym x.1 new.1 ∙ (unset-cons new.1 x xs unset).0)
        (λ k d l. once 0 (suc k) d (omega arith) (omega arith)))
        later
    by false later = AllPairs-cons (λ x y. same_timer x.1 y.1 ≡ false) new (x ∷ xs) (differs_from_unset new.1 (x ∷ xs) unset) once

IsInOrder-cons : (x : ℕ × Timer) (xs : List (ℕ × Timer)) → All (λ y. x.0 ≤ y.0) xs → IsInOrder xs → IsInOrder (x ∷ xs)
IsInOrder-cons x xs least o zero zero d l m = omega arith
IsInOrder-cons x xs least o zero (suc j) d l m = least j d (omega arith)
IsInOrder-cons x xs least o (suc i) zero d l m = absurd (omega arith)
IsInOrder-cons x xs least o (suc i) (suc j) d l m = o i j d (omega arith) (omega arith)

pub order-behind : (new : ℕ × Timer) (xs : List (ℕ × Timer)) → IsInOrder xs → IsInOrder (behind new xs)
order-behind new [] o = IsInOrder-cons new [] (λ k d l. absurd (omega arith)) o
order-behind new (x ∷ xs) o = elim (leb_tells x.0 new.0) [
  | inl a ↦ simp a.0 (IsInOrder-cons x (behind new xs)
      (All-behind (λ y. x.0 ≤ y.0) new xs a.1 (λ k d l. o 0 (suc k) d (omega arith) (omega arith)))
      (order-behind new xs (λ i j d l m. o (suc i) (suc j) d (omega arith) (omega arith))))
  | inr a ↦ simp a.0 (IsInOrder-cons new (x ∷ xs) (λ k d l. let h = o 0 k d (omega arith) l in omega (arith, h, a.1)) o)
]

-- the timer is set
pub set-behind : (new : ℕ × Timer) (xs : List (ℕ × Timer)) → is_set new.1 (behind new xs) ≡ true
set-behind new [] = set-cons new.1 new [] true (same_self new.1)
set-behind new (x ∷ xs) = by (nat_le x.0 new.0) (set-behind new xs)
  where
    or_true : (c : Bool) → cond c true true ≡ true
    or_true true = refl
    or_true false = refl

    by : (b : Bool) → is_set new.1 (behind new xs) ≡ true → is_set new.1 (cond b (x ∷ behind new xs) (new ∷ x ∷ xs)) ≡ true
    by true later = set-cons new.1 x (behind new xs) (same_timer new.1 x.1) refl ∙ ap (λ c. cond (same_timer new.1 x.1) true c) later
        ∙ or_true (same_timer new.1 x.1)
    by false later = set-cons new.1 new (x ∷ xs) true (same_self new.1)

-- each other timer is as it was
pub set-behind_other : (new : ℕ × Timer) (t : Timer) (xs : List (ℕ × Timer)) → same_timer t new.1 ≡ false → is_set t (behind new xs) ≡ is_set t xs
set-behind_other new t [] differs = set-cons t new [] false differs
set-behind_other new t (x ∷ xs) differs = by (nat_le x.0 new.0) (set-behind_other new t xs differs)
  where
    by : (b : Bool) → is_set t (behind new xs) ≡ is_set t xs → is_set t (cond b (x ∷ behind new xs) (new ∷ x ∷ xs)) ≡ is_set t (x ∷ xs)
    by true later = set-cons t x (behind new xs) (same_timer t x.1) refl ∙ ap (λ c. cond (same_timer t x.1) true c) later
        ∙ sym (set-cons t x xs (same_timer t x.1) refl)
    by false later = set-cons t new (x ∷ xs) false differs
