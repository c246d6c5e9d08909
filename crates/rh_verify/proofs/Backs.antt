-- Spaces at the end of a line.
use Rattle.std.proofs.Common.{◌≡◌, ◌<◌, ◌≤◌, ◌+◌, ◌-◌, ℕ, List, [], ◌∷◌, ◌++◌, length, take, get_or, Bool, true, false, cond, refl, sym, ap, ◌∙◌, arith}
use Rattle.std.specs.Prelude.{◌&&◌, ◌==◌}
use Rattle.std.proofs.lemmas.Bool.Decides.{nat_tests}
use Rattle.std.proofs.lemmas.List.{take_more, length-append}
use Rattle.rh_verify.specs.Spaces.{without_back}

-- one space more
back_space : (xs : List ℕ) → without_back (xs ++ 32 ∷ []) ≡ without_back xs
back_space [] = refl
back_space (x ∷ xs) = ap (λ (ys : List ℕ). cond ((x == 32) && (length ys == 0)) [] (x ∷ ys)) (back_space xs)

-- another byte
back_other : (xs : List ℕ) (b : ℕ) → (b == 32) ≡ false → without_back (xs ++ b ∷ []) ≡ xs ++ b ∷ []
back_other [] b other = rw other refl
back_other (x ∷ xs) b other = ap (λ (ys : List ℕ). cond ((x == 32) && (length ys == 0)) [] (x ∷ ys)) (back_other xs b other) ∙ kept (x == 32)
  where
    some : (length (xs ++ b ∷ []) == 0) ≡ false
    some = grind (arith, nat_tests, length-append xs (b ∷ []))

    kept : (t : Bool) → cond (t && (length (xs ++ b ∷ []) == 0)) [] (x ∷ (xs ++ b ∷ [])) ≡ x ∷ (xs ++ b ∷ [])
    kept true = rw some refl
    kept false = refl

-- the last byte of those up to the place n
module _ (line : List ℕ) (n : ℕ) (some : 0 < n) (within : n ≤ length line) where
  last : take n line ≡ take (n - 1) line ++ get_or line (n - 1) 0 ∷ []
  last =
      let one : n - 1 + 1 ≡ n = omega (arith, some) in
      ap (λ k. take k line) (sym one) ∙ take_more line (n - 1) 0 (omega (arith, some, within))

  pub one_less : get_or line (n - 1) 0 ≡ 32 → without_back (take n line) ≡ without_back (take (n - 1) line)
  one_less space =
      ap without_back (last ∙ ap (λ (b : ℕ). take (n - 1) line ++ b ∷ []) space) ∙ back_space (take (n - 1) line)

  pub all_kept : (get_or line (n - 1) 0 == 32) ≡ false → without_back (take n line) ≡ take n line
  all_kept other =
      ap without_back last ∙ back_other (take (n - 1) line) (get_or line (n - 1) 0) other ∙ sym last
