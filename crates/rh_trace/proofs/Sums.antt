-- Sums over the numbers below another.
use Rattle.std.proofs.Common.{◌≡◌, ℕ, ◌+◌, ◌*◌, ◌<◌, ◌≤◌, zero, suc, arith, false, nat_eq, subst}
use Rattle.std.proofs.lemmas.Bool.Decides.{nat_tests}
use Rattle.rh_base.proofs.Lists.{cases}
use Rattle.rh_base.proofs.Truths.{same_number}

abbrev pub sum_to : (ℕ → ℕ) → ℕ → ℕ
sum_to f zero = 0
sum_to f (suc k) = f k + sum_to f k

pub sum_le : (f g : ℕ → ℕ) (k : ℕ) → ((i : ℕ) → f i ≤ g i) → sum_to f k ≤ sum_to g k
sum_le f g zero each = omega arith
sum_le f g (suc k) each = let h = sum_le f g k each in omega (arith, each k)

pub sum_lt : (f g : ℕ → ℕ) (k i : ℕ) → ((j : ℕ) → f j ≤ g j) → i < k → f i < g i → sum_to f k < sum_to g k
sum_lt f g zero i each lt less = omega arith
sum_lt f g (suc k) i each lt less = cases (nat_eq i k)
    (λ t. let e : i ≡ k = same_number i k t in
    let here : f k < g k = subst (λ (j : ℕ). f j < g j) e less in
    let rest = sum_le f g k each in omega arith)
    (λ n. let lower : i < k = below i k n lt in
    let rest = sum_lt f g k i each lower less in omega (arith, each k))
  where
    below : (i k : ℕ) → nat_eq i k ≡ false → i < suc k → i < k
    below i k n lt = grind (arith, nat_tests)

pub sum_bound : (f : ℕ → ℕ) (m k : ℕ) → ((i : ℕ) → f i ≤ m) → sum_to f k ≤ k * m
sum_bound f m zero each = omega arith
sum_bound f m (suc k) each = let h = sum_bound f m k each in let e : suc k * m ≡ m + k * m = omega arith in omega (arith, each k)
