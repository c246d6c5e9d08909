-- Arming: an entry put behind the last one that isn't due later.
use Rattle.std.proofs.Common.{◌≡◌, ◌≢◌, ◌<◌, ◌≤◌, ◌==◌, ℕ, zero, suc, Bool, true, false, cond, nat_le, Some, List, [], ◌∷◌, ◌++◌, All}
use Rattle.std.proofs.Common.{AllPairs, IsNone, refl, sym, ap, ◌∙◌, inl, inr, arith}
use Rattle.std.specs.List.Sorted.{IsNonDecreasingBy}
use Rattle.std.proofs.lemmas.Bool.Decides.{eqb_tells, leb_tells}
use Rattle.std.proofs.lemmas.Bool.{eq-eqb}
use Rattle.std.proofs.lemmas.List.Elements.{All-cons}
use Rattle.std.proofs.lemmas.List.Kept.{AllPairs-cons}
use Rattle.rh_wheel.specs.Firing.{behind, without, due_in, due_at, IsFiringOrder}
use Rattle.rh_wheel.proofs.Finding.{unarmed-cons, differs_from_unarmed}

pub All-behind : {A : Type 0} (P : ℕ × A → Type 0) (new : ℕ × A) (xs : List (ℕ × A)) → P new → All P xs → All P (behind new xs)
All-behind P new [] here all = All-cons P new [] here all
All-behind P new (x ∷ xs) here all = by (nat_le x.0 new.0) (All-behind P new xs here (λ k d l. all (suc k) d (omega arith)))
  where
    by : (b : Bool) → All P (behind new xs) → All P (cond b (x ∷ behind new xs) (new ∷ x ∷ xs))
    by true later = All-cons P x (behind new xs) (all 0 x (omega arith)) later
    by false later = All-cons P new (x ∷ xs) here all

once-behind : (new : ℕ × ℕ) (xs : List (ℕ × ℕ)) → All (λ x. x.1 ≢ new.1) xs → AllPairs (λ x y. x.1 ≢ y.1) xs → AllPairs (λ x y. x.1 ≢ y.1) (behind new xs)
once-behind new [] others once = AllPairs-cons (λ x y. x.1 ≢ y.1) new [] (λ k d l. absurd (omega arith)) once
once-behind new (x ∷ xs) others once =
    by (nat_le x.0 new.0) (once-behind new xs (λ k d l. others (suc k) d (omega arith)) (λ i j d a b. once (suc i) (suc j) d (omega arith) (omega arith)))
  where
    by : (b : Bool) → AllPairs (λ x y. x.1 ≢ y.1) (behind new xs) → AllPairs (λ x y. x.1 ≢ y.1) (cond b (x ∷ behind new xs) (new ∷ x ∷ xs))
    by true later =
        AllPairs-cons (λ x y. x.1 ≢ y.1) x (behind new xs)
        (All-behind (λ y. x.1 ≢ y.1) new xs (others 0 x (omega arith)) (λ k d l. once 0 (suc k) d (omega arith) (omega arith)))
        later
    by false later = AllPairs-cons (λ x y. x.1 ≢ y.1) new (x ∷ xs) (λ k d l e. others k d l (sym e)) once

IsNonDecreasingBy-cons : (x : ℕ × ℕ) (xs : List (ℕ × ℕ)) → All (λ y. x.0 ≤ y.0) xs → IsNonDecreasingBy (λ y. y.0) xs → IsNonDecreasingBy (λ y. y.0) (x ∷ xs)
IsNonDecreasingBy-cons x xs least o zero zero d l m = omega arith
IsNonDecreasingBy-cons x xs least o zero (suc j) d l m = least j d (omega arith)
IsNonDecreasingBy-cons x xs least o (suc i) zero d l m = absurd (omega arith)
IsNonDecreasingBy-cons x xs least o (suc i) (suc j) d l m = o i j d (omega arith) (omega arith)

pub by_due-behind : (new : ℕ × ℕ) (xs : List (ℕ × ℕ)) → IsNonDecreasingBy (λ y. y.0) xs → IsNonDecreasingBy (λ y. y.0) (behind new xs)
by_due-behind new [] o = IsNonDecreasingBy-cons new [] (λ k d l. absurd (omega arith)) o
by_due-behind new (x ∷ xs) o = elim (leb_tells x.0 new.0) [
  | inl a ↦ simp a.0 (IsNonDecreasingBy-cons x (behind new xs)
      (All-behind (λ y. x.0 ≤ y.0) new xs a.1 (λ k d l. o 0 (suc k) d (omega arith) (omega arith)))
      (by_due-behind new xs (λ i j d l m. o (suc i) (suc j) d (omega arith) (omega arith))))
  | inr a ↦ simp a.0 (IsNonDecreasingBy-cons new (x ∷ xs) (λ k d l. let h = o 0 k d (omega arith) l in omega (arith, h, a.1)) o)
]

-- arming keeps the firing order
pub IsFiringOrder-behind : (n : ℕ) (new : ℕ × ℕ) (xs : List (ℕ × ℕ)) → IsFiringOrder n xs → new.1 < n → IsNone (due_in new.1 xs)
    → IsFiringOrder n (behind new xs)
IsFiringOrder-behind n new xs o numbered none = record {
  by_due = by_due-behind new xs o.by_due;
  once = once-behind new xs (differs_from_unarmed new.1 xs none) o.once;
  numbered = All-behind (λ y. y.1 < n) new xs numbered o.numbered;
}

-- the timer is armed
pub due_in-behind_same : (new : ℕ × ℕ) (xs : List (ℕ × ℕ)) → IsNone (due_in new.1 xs) → due_in new.1 (behind new xs) ≡ Some new.0
due_in-behind_same new [] h = simp (eq-eqb new.1 new.1 refl) refl
due_in-behind_same new (x ∷ xs) h = by (nat_le x.0 new.0) (due_in-behind_same new xs (unarmed-cons new.1 x xs h).1)
  where
    by : (b : Bool) → due_in new.1 (behind new xs) ≡ Some new.0 → due_in new.1 (cond b (x ∷ behind new xs) (new ∷ x ∷ xs)) ≡ Some new.0
    by true later = simp (unarmed-cons new.1 x xs h).0 later
    by false later = simp (eq-eqb new.1 new.1 refl) refl

-- each other timer is as it was
pub due_in-behind_other : (new : ℕ × ℕ) (xs : List (ℕ × ℕ)) (t : ℕ) → t ≢ new.1 → due_in t (behind new xs) ≡ due_in t xs
due_in-behind_other new xs t differs = elim (eqb_tells new.1 t) [ inl a ↦ absurd (differs (sym a.1)) | inr a ↦ go a.0 xs ]
  where
    go : new.1 == t ≡ false → (xs : List (ℕ × ℕ)) → due_in t (behind new xs) ≡ due_in t xs
    go e [] = simp e refl
    go e (x ∷ xs) = by (nat_le x.0 new.0) (x.1 == t) (go e xs)
      where
        by : (b c : Bool) → due_in t (behind new xs) ≡ due_in t xs → due_in t (cond b (x ∷ behind new xs) (new ∷ x ∷ xs)) ≡ due_in t (x ∷ xs)
        by true c later = elim (eqb_tells x.1 t) [ inl a ↦ simp a.0 refl | inr a ↦ simp a.0 later ]
        by false c later = simp e refl

pub without-unarmed : (t : ℕ) (xs : List (ℕ × ℕ)) → IsNone (due_in t xs) → without t xs ≡ xs
without-unarmed t [] h = refl
without-unarmed t (x ∷ xs) h = simp (unarmed-cons t x xs h).0 (ap (λ l. x ∷ l) (without-unarmed t xs (unarmed-cons t x xs h).1))

-- cancelling gives the list of before
pub without-behind : (new : ℕ × ℕ) (xs : List (ℕ × ℕ)) → IsNone (due_in new.1 xs) → without new.1 (behind new xs) ≡ xs
without-behind new [] h = simp (eq-eqb new.1 new.1 refl) refl
without-behind new (x ∷ xs) h = by (nat_le x.0 new.0) (without-behind new xs (unarmed-cons new.1 x xs h).1)
  where
    by : (b : Bool) → without new.1 (behind new xs) ≡ xs → without new.1 (cond b (x ∷ behind new xs) (new ∷ x ∷ xs)) ≡ x ∷ xs
    by true later = simp (unarmed-cons new.1 x xs h).0 (ap (λ l. x ∷ l) later)
    by false later = simp (eq-eqb new.1 new.1 refl) (without-unarmed new.1 (x ∷ xs) h)

due_at-later : (due : ℕ) (xs : List (ℕ × ℕ)) → All (λ x. due < x.0) xs → due_at due xs ≡ []
due_at-later due [] h = refl
due_at-later due (x ∷ xs) h = elim (eqb_tells x.0 due) [
  | inl a ↦ absurd (let l = h 0 x (omega arith) in omega (arith, l, a.1))
  | inr a ↦ simp a.0 (due_at-later due xs (λ k d l. h (suc k) d (omega arith)))
]

-- of the entries that are due together the new one is the last
pub due_at-behind : (new : ℕ × ℕ) (xs : List (ℕ × ℕ)) → IsNonDecreasingBy (λ x. x.0) xs → due_at new.0 (behind new xs) ≡ due_at new.0 xs ++ new ∷ []
due_at-behind new [] o = simp (eq-eqb new.0 new.0 refl) refl
due_at-behind new (x ∷ xs) o = elim (leb_tells x.0 new.0) [
  | inl a ↦ elim (eqb_tells x.0 new.0) [
    | inl b ↦ simp (a.0, b.0) (ap (λ l. x ∷ l) (due_at-behind new xs (λ i j d l m. o (suc i) (suc j) d (omega arith) (omega arith))))
    | inr b ↦ simp (a.0, b.0) (due_at-behind new xs (λ i j d l m. o (suc i) (suc j) d (omega arith) (omega arith)))
  ]
  | inr a ↦ (let none : due_at new.0 (x ∷ xs) ≡ [] = due_at-later new.0 (x ∷ xs) (λ k d l. let h = o 0 k d (omega arith) l in omega (arith, a.1, h)) in
      simp (a.0, eq-eqb new.0 new.0 refl) (ap (λ l. new ∷ l) none ∙ sym (ap (λ l. l ++ new ∷ []) none)))
]
