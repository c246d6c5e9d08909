-- How far a text goes on as a text of terms does.
use Rattle.std.specs.Prelude.{◌≡◌, ◌+◌, ℕ, List, [], ◌∷◌, ◌++◌, ◌==◌, count_by}
use Rattle.rh_base.specs.Tree.{Trees}
use Rattle.rh_terms.specs.Spelling.{AreDotted}

-- some text that is spelled begins with these bytes (ours)
abbrev pub CanGoOn : List ℕ → Type 0
CanGoOn front = (after : List ℕ) × (ts : Trees) × AreDotted ts (front ++ after)

-- The longest front of the text that can go on ends on this line: with the byte behind it, it can't; or it is the whole
-- text (ours).
pub record StopsAt (line : ℕ) (bytes : List ℕ) : Type 0 where
  pub front : List ℕ
  pub rest : List ℕ
  pub parts : bytes ≡ front ++ rest
  pub line_is : line ≡ count_by (λ b. b == 10) front + 1
  pub goes_on : CanGoOn front
  pub stops : (b : ℕ) (others : List ℕ) → rest ≡ b ∷ others → CanGoOn (front ++ b ∷ []) → ⊥
