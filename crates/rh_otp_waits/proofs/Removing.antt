-- Of two things that are taken out of a list either can be taken out first.
use Rattle.std.proofs.Common.{◌≡◌, ◌<◌, ℕ, zero, suc, List, [], ◌∷◌, length, refl, ap, arith}
use Rattle.std.specs.List.{remove}

-- the second is taken out behind the first, and the first behind the second, and the same is left
pub record EitherFirst {A : Type 0} (xs : List A) (i j : ℕ) : Type 0 where
  pub behind : ℕ
  pub behind_other : ℕ
  pub within : behind < length (remove xs i)
  pub within_other : behind_other < length (remove xs j)
  pub same : remove (remove xs i) behind ≡ remove (remove xs j) behind_other

pub either_first : {A : Type 0} (xs : List A) (i j : ℕ) → i < j → j < length xs → EitherFirst xs i j
either_first [] i j less within = absurd (omega (arith, within))
either_first (x ∷ xs) i zero less within = absurd (omega (arith, less))
either_first (x ∷ xs) zero (suc j) less within =
    record { behind = j; behind_other = 0; within = omega (arith, within); within_other = omega arith; same = refl }
either_first {A} (x ∷ xs) (suc i) (suc j) less within =
    let more : EitherFirst xs i j = either_first xs i j (omega (arith, less)) (omega (arith, within)) in
    let inside : more.behind < length (remove xs i) = more.within in
    let inside_other : more.behind_other < length (remove xs j) = more.within_other in
    record {
      behind = suc more.behind;
      behind_other = suc more.behind_other;
      within = omega (arith, inside);
      within_other = omega (arith, inside_other);
      same = ap (λ (l : List A). x ∷ l) more.same;
    }
