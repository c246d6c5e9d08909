-- One more line of a text.
use Rattle.std.proofs.Common.{◌≡◌, ◌<◌, ◌≤◌, ◌+◌, ◌-◌, ℕ, zero, suc, List, [], ◌∷◌, ◌++◌, length, take, drop, get_or, map, true, false, cond, eqb, refl, sym}
use Rattle.std.proofs.Common.{ap, ◌∙◌, arith, append_assoc}
use Rattle.std.specs.List.{concat, onto_first}
use Rattle.std.proofs.lemmas.List.{drop-drop, drop_at, take_at, length-append}
use Rattle.std.proofs.Math.Seq.{take-add}
use Rattle.rh_script.specs.Lines.{raw_lines, lines_before, lines_behind, cluster_text, script_lines, content, is_separator}

-- no LF stands before the place n, and the line ends there
pub line_ends : (bytes : List ℕ) (n : ℕ) → n < length bytes → ((k : ℕ) → k < n → eqb (get_or bytes k 0) 10 ≡ false) → eqb (get_or bytes n 0) 10 ≡ true
    → raw_lines bytes ≡ take (n + 1) bytes ∷ raw_lines (drop (n + 1) bytes)
line_ends [] n l before at = absurd (omega (arith, l))
line_ends (b ∷ bytes) zero l before at = ap (λ t. cond t ((b ∷ []) ∷ raw_lines bytes) (onto_first b (raw_lines bytes))) at
line_ends (b ∷ bytes) (suc n) l before at =
    ap (λ t. cond t ((b ∷ []) ∷ raw_lines bytes) (onto_first b (raw_lines bytes))) (before 0 (omega arith))
    ∙ ap (onto_first b) (line_ends bytes n (omega (arith, l)) (λ k h. before (suc k) (omega (arith, h))) at)
    ∙ shifted
  where
    step : suc (n + 1) ≡ suc n + 1
    step = omega arith

    shifted : (b ∷ take (n + 1) bytes) ∷ raw_lines (drop (n + 1) bytes) ≡ take (suc n + 1) (b ∷ bytes) ∷ raw_lines (drop (suc n + 1) (b ∷ bytes))
    shifted = λ i. take (step i) (b ∷ bytes) ∷ raw_lines (drop (step i) (b ∷ bytes))

-- no LF at all: the whole is one line
pub line_is_all : (bytes : List ℕ) → 0 < length bytes → ((k : ℕ) → k < length bytes → eqb (get_or bytes k 0) 10 ≡ false) → raw_lines bytes ≡ bytes ∷ []
line_is_all [] l none = absurd (omega (arith, l))
line_is_all (b ∷ []) l none = ap (λ t. cond t ((b ∷ []) ∷ []) ((b ∷ []) ∷ [])) (none 0 (omega arith))
line_is_all (b ∷ c ∷ bytes) l none =
    ap (λ t. cond t ((b ∷ []) ∷ raw_lines (c ∷ bytes)) (onto_first b (raw_lines (c ∷ bytes)))) (none 0 (omega arith))
    ∙ ap (onto_first b) (line_is_all (c ∷ bytes) (omega arith) (λ k h. none (suc k) (omega (arith, h))))

module _ (rest line after : List ℕ) (split : raw_lines rest ≡ line ∷ raw_lines after) where
  pub before_goes_on : is_separator line ≡ false → cluster_text rest ≡ line ++ cluster_text after
  before_goes_on other = ap (λ ls. concat (lines_before ls)) split ∙ ap (λ t. concat (cond t [] (line ∷ lines_before (raw_lines after)))) other

  pub behind_goes_on : is_separator line ≡ false → script_lines rest ≡ script_lines after
  behind_goes_on other = ap (λ ls. map content (lines_behind ls)) split ∙ ap
      (λ t. map content (cond t (raw_lines after) (lines_behind (raw_lines after)))) other

  pub before_ends : is_separator line ≡ true → cluster_text rest ≡ []
  before_ends found = ap (λ ls. concat (lines_before ls)) split ∙ ap (λ t. concat (cond t [] (line ∷ lines_before (raw_lines after)))) found

  pub behind_begins : is_separator line ≡ true → script_lines rest ≡ map content (raw_lines after)
  behind_begins found = ap (λ ls. map content (lines_behind ls)) split ∙ ap (λ t. map content (cond t (raw_lines after) (lines_behind (raw_lines after)))) found

-- one line farther in the text
module _ (bytes rest line after : List ℕ) (within : length rest ≤ length bytes) (place : rest ≡ drop (length bytes - length rest) bytes)
    (whole : rest ≡ line ++ after) where
  farther : length bytes - length after ≡ (length bytes - length rest) + length line
  farther = omega (arith, ap length whole, length-append line after, within)

  pub place_farther : after ≡ drop (length bytes - length after) bytes
  place_farther = sym (drop_at line after (length line) refl) ∙ ap (drop (length line)) (sym whole ∙ place)
      ∙ drop-drop (length line) (length bytes - length rest) bytes ∙ ap (λ n. drop n bytes) (sym farther)

  pub front_farther : take (length bytes - length after) bytes ≡ take (length bytes - length rest) bytes ++ line
  front_farther = ap (λ n. take n bytes) farther ∙ take-add (length bytes - length rest) (length line) bytes
      ∙ ap (λ l. take (length bytes - length rest) bytes ++ l) (ap (take (length line)) (sym place ∙ whole) ∙ take_at line after (length line) refl)

  pub cluster_farther : (all : List ℕ) → all ≡ take (length bytes - length rest) bytes ++ cluster_text rest → cluster_text rest ≡ line ++ cluster_text after
      → all ≡ take (length bytes - length after) bytes ++ cluster_text after
  cluster_farther all so_far next = so_far ∙ ap (λ l. take (length bytes - length rest) bytes ++ l) next
      ∙ sym (append_assoc (take (length bytes - length rest) bytes) line (cluster_text after))
      ∙ ap (λ l. l ++ cluster_text after) (sym front_farther)
