-- Finding the entry of a timer.
use Rattle.std.proofs.Common.{◌≡◌, ◌≢◌, ◌<◌, ◌≤◌, ◌==◌, ℕ, zero, suc, Bool, true, false, cond, Option, Some, None, List, [], ◌∷◌, length, get_or, find, All}
use Rattle.std.proofs.Common.{AllPairs, Contains, IsSome, IsNone, IfSome, is_some, slice_get, refl, ap, inl, inr, arith}
use Rattle.std.specs.Option.{option_map}
use Rattle.std.specs.List.Sorted.{IsNonDecreasingBy}
use Rattle.std.proofs.lemmas.Bool.Decides.{eqb_tells}
use Rattle.std.proofs.lemmas.Bool.{eq-eqb}
use Rattle.rh_wheel.specs.Firing.{due_in, timers_of}

-- a timer that isn't armed stands neither in the first entry nor behind it
pub unarmed-cons : (t : ℕ) (x : ℕ × ℕ) (xs : List (ℕ × ℕ)) → IsNone (due_in t (x ∷ xs)) → (x.1 == t ≡ false) × IsNone (due_in t xs)
unarmed-cons t x xs = by (x.1 == t)
  where
    by : (b : Bool) → is_some (option_map (λ (e : ℕ × ℕ). e.0) (cond b (Some x) (find (λ e. e.1 == t) xs))) ≡ false → (b ≡ false) × IsNone (due_in t xs)
    by true h = absurd (cc)
    by false h = (refl, h)

pub differs_from_unarmed : (t : ℕ) (xs : List (ℕ × ℕ)) → IsNone (due_in t xs) → All (λ x. x.1 ≢ t) xs
differs_from_unarmed t [] h k d l = absurd (omega arith)
differs_from_unarmed t (x ∷ xs) h zero d l = elim (eqb_tells x.1 t) [ inl a ↦ absurd (let e = (unarmed-cons t x xs h).0 in cc (e, a.0)) | inr a ↦ a.1 ]
differs_from_unarmed t (x ∷ xs) h (suc k) d l = differs_from_unarmed t xs (unarmed-cons t x xs h).1 k d (omega arith)

pub unarmed_from_differs : (t : ℕ) (xs : List (ℕ × ℕ)) → All (λ x. x.1 ≢ t) xs → IsNone (due_in t xs)
unarmed_from_differs t [] h = refl
unarmed_from_differs t (x ∷ xs) h = elim (eqb_tells x.1 t) [
  | inl a ↦ absurd (h 0 x (omega arith) a.1)
  | inr a ↦ simp a.0 (unarmed_from_differs t xs (λ k d l. h (suc k) d (omega arith)))
]

-- an armed timer is one of the timers of the entries
pub Contains-from_armed : (t : ℕ) (xs : List (ℕ × ℕ)) → IsSome (due_in t xs) → Contains (timers_of xs) t
Contains-from_armed t [] h = absurd (cc)
Contains-from_armed t (x ∷ xs) h = elim (eqb_tells x.1 t) [
  | inl a ↦ (0, omega arith, a.1)
  | inr a ↦ behind_first (Contains-from_armed t xs (simp a.0 at h))
]
  where
    behind_first : Contains (timers_of xs) t → Contains (timers_of (x ∷ xs)) t
    behind_first w = (suc w.0, omega (arith, w.1), w.2)

pub armed_from_Contains : (t : ℕ) (xs : List (ℕ × ℕ)) → Contains (timers_of xs) t → IsSome (due_in t xs)
armed_from_Contains t xs w = at xs w.0 w.1 w.2
  where
    at : (xs : List (ℕ × ℕ)) (k : ℕ) → k < length (timers_of xs) → get_or (timers_of xs) k t ≡ t → IsSome (due_in t xs)
    at [] k l e = absurd (omega arith)
    at (x ∷ xs) zero l e = simp (eq-eqb x.1 t e) refl
    at (x ∷ xs) (suc k) l e = by (x.1 == t) (at xs k (omega arith) e)
      where
        by : (b : Bool) → IsSome (due_in t xs) → is_some (option_map (λ (e : ℕ × ℕ). e.0) (cond b (Some x) (find (λ e. e.1 == t) xs))) ≡ true
        by true h = refl
        by false h = h

-- what is found is an entry
pub Contains-due_in : (t : ℕ) (xs : List (ℕ × ℕ)) → IfSome (due_in t xs) (λ due. Contains xs (due, t))
Contains-due_in t [] = tt
Contains-due_in t (x ∷ xs) = elim (eqb_tells x.1 t) [
  | inl a ↦ simp a.0 (0, omega arith, ap (λ u. (x.0, u)) a.1)
  | inr a ↦ simp a.0 (behind_first (due_in t xs) (Contains-due_in t xs))
]
  where
    behind_first : (o : Option ℕ) → IfSome o (λ due. Contains xs (due, t)) → IfSome o (λ due. Contains (x ∷ xs) (due, t))
    behind_first None h = tt
    behind_first (Some due) w = (suc w.0, omega (arith, w.1), w.2)

-- the first entry is due no later than any other
pub least-first : (xs : List (ℕ × ℕ)) → IsNonDecreasingBy (λ x. x.0) xs → IfSome (slice_get xs 0) (λ x. All (λ y. x.0 ≤ y.0) xs)
least-first [] h = tt
least-first (x ∷ xs) h = λ k d l. h 0 k d (omega arith) l

-- an armed timer has what each entry has
pub numbered_from_armed : (n t : ℕ) (xs : List (ℕ × ℕ)) → All (λ x. x.1 < n) xs → IsSome (due_in t xs) → t < n
numbered_from_armed n t [] all h = absurd (cc)
numbered_from_armed n t (x ∷ xs) all h = elim (eqb_tells x.1 t) [
  | inl a ↦ (let l = all 0 x (omega arith) in omega (arith, l, a.1))
  | inr a ↦ numbered_from_armed n t xs (λ k d l. all (suc k) d (omega arith)) (simp a.0 at h)
]

pub IfSome-slice_get : (P : ℕ × ℕ → Type 0) (xs : List (ℕ × ℕ)) (k : ℕ) → All P xs → IfSome (slice_get xs k) P
IfSome-slice_get P [] k all = tt
IfSome-slice_get P (x ∷ xs) zero all = all 0 x (omega arith)
IfSome-slice_get P (x ∷ xs) (suc k) all = IfSome-slice_get P xs k (λ i d l. all (suc i) d (omega arith))

-- the timer of each entry is armed, and due at its time
pub due_in-slice_get : (xs : List (ℕ × ℕ)) (k : ℕ) → AllPairs (λ x y. x.1 ≢ y.1) xs → IfSome (slice_get xs k) (λ x. due_in x.1 xs ≡ Some x.0)
due_in-slice_get [] k once = tt
due_in-slice_get (x ∷ xs) zero once = simp (eq-eqb x.1 x.1 refl) refl
due_in-slice_get (x ∷ xs) (suc k) once =
    behind_first (slice_get xs k)
    (IfSome-slice_get (λ y. x.1 ≢ y.1) xs k (λ j d l. once 0 (suc j) d (omega arith) (omega arith)))
    (due_in-slice_get xs k (λ i j d l m. once (suc i) (suc j) d (omega arith) (omega arith)))
  where
    behind_first : (o : Option (ℕ × ℕ)) → IfSome o (λ y. x.1 ≢ y.1) → IfSome o (λ y. due_in y.1 xs ≡ Some y.0) → IfSome o (λ y. due_in y.1 (x ∷ xs) ≡ Some y.0)
    behind_first None differs h = tt
    behind_first (Some y) differs h = elim (eqb_tells x.1 y.1) [ inl a ↦ absurd (differs a.1) | inr a ↦ simp a.0 h ]
