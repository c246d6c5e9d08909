-- Cancelling: the entries without that of a timer.
use Rattle.std.proofs.Common.{◌≡◌, ◌≢◌, ◌+◌, ℕ, suc, List, [], ◌∷◌, length, AllPairs, IsNone, IsSome, refl, sym, ap, ◌∙◌, inl, inr, arith}
use Rattle.std.proofs.lemmas.Bool.Decides.{eqb_tells}
use Rattle.rh_wheel.specs.Firing.{without, due_in}
use Rattle.rh_wheel.proofs.Finding.{unarmed_from_differs}
use Rattle.rh_wheel.proofs.Arming.{without-unarmed}

-- the timer isn't armed
pub unarmed-without : (t : ℕ) (xs : List (ℕ × ℕ)) → IsNone (due_in t (without t xs))
unarmed-without t [] = refl
unarmed-without t (x ∷ xs) = elim (eqb_tells x.1 t) [ inl a ↦ simp a.0 (unarmed-without t xs) | inr a ↦ simp a.0 (unarmed-without t xs) ]

-- each other timer is as it was
pub due_in-without_other : (t : ℕ) (xs : List (ℕ × ℕ)) (u : ℕ) → u ≢ t → due_in u (without t xs) ≡ due_in u xs
due_in-without_other t [] u differs = refl
due_in-without_other t (x ∷ xs) u differs = elim (eqb_tells x.1 t) [
  | inl a ↦ elim (eqb_tells x.1 u) [
    | inl b ↦ absurd (differs (sym b.1 ∙ a.1))
    | inr b ↦ simp (a.0, b.0) (due_in-without_other t xs u differs)
  ]
  | inr a ↦ elim (eqb_tells x.1 u) [
    | inl b ↦ simp (a.0, b.0) refl
    | inr b ↦ simp (a.0, b.0) (due_in-without_other t xs u differs)
  ]
]

-- one entry less
pub length-without : (t : ℕ) (xs : List (ℕ × ℕ)) → AllPairs (λ x y. x.1 ≢ y.1) xs → IsSome (due_in t xs) → length (without t xs) + 1 ≡ length xs
length-without t [] once h = absurd (cc)
length-without t (x ∷ xs) once h = elim (eqb_tells x.1 t) [
  | inl a ↦ (let e = ap (λ (l : List (ℕ × ℕ)). length l)
      (without-unarmed t xs (unarmed_from_differs t xs (λ k d l f. once 0 (suc k) d (omega arith) (omega arith) (a.1 ∙ sym f)))) in
      simp a.0 (omega (arith, e)))
  | inr a ↦ (let e = length-without t xs (λ i j d l m. once (suc i) (suc j) d (omega arith) (omega arith)) (simp a.0 at h) in
      simp a.0 (omega (arith, e)))
]
