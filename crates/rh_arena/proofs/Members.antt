-- The numbers of a list by recursion, which are easier to take apart than by their places.
use Rattle.std.proofs.Common.{◌≡◌, ◌≢◌, ◌⊎◌, ◌<◌, ◌≤◌, ℕ, zero, suc, List, [], ◌∷◌, ◌++◌, length, get_or, refl, sym, ap, inl, inr, true, eqb, AllPairs, arith}
use Rattle.std.specs.List.{Contains, list_any}
use Rattle.std.proofs.lemmas.Bool.Decides.{eqb_tells, Decides-eqb}
use Rattle.std.proofs.lemmas.Map.Made.{IsDistinct-from_AllPairs}
use Rattle.std.proofs.lemmas.Map.Steps.{length-le_from_distinct_below}

-- i is one of these
abbrev pub IsIn : ℕ → List ℕ → Type 0
IsIn i [] = ⊥
IsIn i (x ∷ xs) = (i ≡ x) ⊎ IsIn i xs

abbrev pub AreDifferent : List ℕ → Type 0
AreDifferent [] = Unit {0}
AreDifferent (x ∷ xs) = ¬ (IsIn x xs) × AreDifferent xs

pub contains_from_in : (i : ℕ) (xs : List ℕ) → IsIn i xs → Contains xs i
contains_from_in i [] m = absurd m
contains_from_in i (x ∷ xs) (inl e) = (0, omega arith, sym e)
contains_from_in i (x ∷ xs) (inr m) = let c = contains_from_in i xs m in (suc c.0, omega (arith, c.1), c.2)

in_at : (i : ℕ) (xs : List ℕ) (k : ℕ) → k < length xs → get_or xs k i ≡ i → IsIn i xs
in_at i [] k l e = absurd (omega (arith, l))
in_at i (x ∷ xs) zero l e = inl (sym e)
in_at i (x ∷ xs) (suc k) l e = inr (in_at i xs k (omega (arith, l)) e)

pub in_from_contains : (i : ℕ) (xs : List ℕ) → Contains xs i → IsIn i xs
in_from_contains i xs c = in_at i xs c.0 c.1 c.2

pub different_from_pairs : (xs : List ℕ) → AllPairs (λ i j. i ≢ j) xs → AreDifferent xs
different_from_pairs [] p = tt
different_from_pairs (x ∷ xs) p = (
  λ m. let c = contains_from_in x xs m in p 0 (suc c.0) x (omega arith) (omega (arith, c.1)) (sym c.2),
  different_from_pairs xs (λ i j d l m. p (suc i) (suc j) d (omega (arith, l)) (omega (arith, m))),
)

-- ---- in front of one more number, behind it, and the number itself
pub in_front : (j i : ℕ) (ys zs : List ℕ) → IsIn j ys → IsIn j (ys ++ i ∷ zs)
in_front j i [] zs m = absurd m
in_front j i (y ∷ ys) zs (inl e) = inl e
in_front j i (y ∷ ys) zs (inr m) = inr (in_front j i ys zs m)

pub in_behind : (j i : ℕ) (ys zs : List ℕ) → IsIn j zs → IsIn j (ys ++ i ∷ zs)
in_behind j i [] zs m = inr m
in_behind j i (y ∷ ys) zs m = inr (in_behind j i ys zs m)

pub in_middle : (i : ℕ) (ys zs : List ℕ) → IsIn i (ys ++ i ∷ zs)
in_middle i [] zs = inl refl
in_middle i (y ∷ ys) zs = inr (in_middle i ys zs)

-- a list, cut at one of its numbers
pub record IsCut (i : ℕ) (xs : List ℕ) : Type 0 where
  pub front : List ℕ
  pub back : List ℕ
  pub is : xs ≡ front ++ i ∷ back

pub cut_at : (i : ℕ) (xs : List ℕ) → IsIn i xs → IsCut i xs
cut_at i [] m = absurd m
cut_at i (x ∷ xs) (inl e) = record { front = []; back = xs; is = ap (λ y. y ∷ xs) (sym e) }
cut_at i (x ∷ xs) (inr m) = let c = cut_at i xs m in record { front = x ∷ c.front; back = c.back; is = ap (λ ys. x ∷ ys) c.is }

-- different numbers below n are n at most
in_from_any : (q : ℕ) (xs : List ℕ) → list_any (eqb q) xs ≡ true → IsIn q xs
in_from_any q [] e = absurd cc
in_from_any q (x ∷ xs) e = elim (eqb_tells q x) [ inl a ↦ inl a.1 | inr a ↦ inr (in_from_any q xs (simp a.0 at e)) ]

pub length-le_different : (n : ℕ) (xs : List ℕ) → AllPairs (λ i j. i ≢ j) xs → ((i : ℕ) → IsIn i xs → i < n) → length xs ≤ n
length-le_different n xs different below =
    length-le_from_distinct_below xs n (IsDistinct-from_AllPairs Decides-eqb xs different) (λ q e. below q (in_from_any q xs e))
