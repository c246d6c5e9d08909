-- A cluster's text is no longer than the input.
use Rattle.std.proofs.Common.{◌≡◌, ◌≤◌, ◌==◌, ℕ, Bool, true, false, List, [], ◌∷◌, ◌++◌, length, if◌then◌else◌, refl, ap, ◌∙◌, arith, length-append}
use Rattle.std.specs.List.{concat, onto_first}
use Rattle.rh_script.specs.Lines.{raw_lines, lines_before, is_separator, cluster_text}

onto : (b : ℕ) (lines : List (List ℕ)) → concat (onto_first b lines) ≡ b ∷ concat lines
onto b [] = refl
onto b (line ∷ lines) = refl

one_byte : (end : Bool) (b : ℕ) (lines : List (List ℕ)) → concat (if end then ((b ∷ []) ∷ lines) else onto_first b lines) ≡ b ∷ concat lines
one_byte true b lines = refl
one_byte false b lines = onto b lines

whole : (bytes : List ℕ) → concat (raw_lines bytes) ≡ bytes
whole [] = refl
whole (b ∷ bytes) = one_byte (b == 10) b (raw_lines bytes) ∙ ap (λ (bs : List ℕ). b ∷ bs) (whole bytes)

one_line : (end : Bool) (line : List ℕ) (front lines : List (List ℕ)) → length (concat front) ≤ length (concat lines)
    → length (concat (if end then [] else line ∷ front)) ≤ length (line ++ concat lines)
one_line true line front lines h = omega arith
one_line false line front lines h = omega (arith, h, length-append line (concat front), length-append line (concat lines))

before : (lines : List (List ℕ)) → length (concat (lines_before lines)) ≤ length (concat lines)
before [] = omega arith
before (line ∷ lines) = one_line (is_separator line) line (lines_before lines) lines (before lines)

pub text_within : (bytes : List ℕ) → length (cluster_text bytes) ≤ length bytes
text_within bytes = omega (arith, before (raw_lines bytes), ap length (whole bytes))
