-- A test at the nodes, one after the other.
use Rattle.std.proofs.Common.{◌≡◌, ◌<◌, ◌≤◌, ◌+◌, ◌||◌, ℕ, zero, suc, Bool, true, false, map, nat_eq, ap, ◌∙◌, arith}
use Rattle.std.specs.List.{list_any, range_with_len}
use Rattle.std.proofs.lemmas.Bool.Decides.{nat_tests}
use Rattle.std.proofs.lemmas.List.FromFn.{map-range_with_len_more}
use Rattle.rh_base.proofs.Lists.{any_push, cases}
use Rattle.rh_base.proofs.Truths.{or_left, or_right}

-- one that passes is found
pub any_at : {A : Type 0} (p : A → Bool) (f : ℕ → A) (start len k : ℕ) → start ≤ k → k < start + len → p (f k) ≡ true
    → list_any p (map f (range_with_len start len)) ≡ true
any_at p f start zero k ge lt h = absurd (omega arith)
any_at p f start (suc len) k ge lt h = cases (nat_eq start k)
    (λ t. or_left (p (f start)) _ (ap (λ (i : ℕ). p (f i)) (equal start k t) ∙ h))
    (λ d. or_right (p (f start)) _ (any_at p f (start + 1) len k (above start k d ge) (omega arith) h))
  where
    equal : (i j : ℕ) → nat_eq i j ≡ true → i ≡ j
    equal i j t = grind (arith, nat_tests)

    above : (i j : ℕ) → nat_eq i j ≡ false → i ≤ j → i + 1 ≤ j
    above i j d l = grind (arith, nat_tests)

-- none among the first i + 1 passes if none among the first i does
pub none_more : {A : Type 0} (p : A → Bool) (f : ℕ → A) (i : ℕ) → list_any p (map f (range_with_len 0 i)) ≡ false → p (f i) ≡ false
    → list_any p (map f (range_with_len 0 (i + 1))) ≡ false
none_more p f i before here =
    ap (list_any p) (map-range_with_len_more f 0 i i (omega arith))
    ∙ any_push p (map f (range_with_len 0 i)) (f i)
    ∙ ap (λ b. b || list_any p (map f (range_with_len 0 i))) here ∙ before
