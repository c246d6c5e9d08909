-- Lines before and behind the line `===`.
use Rattle.std.proofs.Common.{◌≡◌, ◌≢◌, ◌<◌, ◌≤◌, ◌∙◌, ◌||◌, ℕ, List, [], ◌∷◌, ◌++◌, length, map, Bool, true, false, cond, refl, sym, ap, arith}
use Rattle.std.specs.List.{concat, list_any}
use Rattle.std.proofs.lemmas.List.{length-append}
use Rattle.rh_script.specs.Lines.{raw_lines, content, is_separator, lines_before, lines_behind, cluster_text, script_lines}
use Rattle.rh_manner.proofs.WholeLines.{joined}

-- no such line
or_first : (a b : Bool) → (a || b) ≡ false → a ≡ false
or_first true b h = absurd (cc h)
or_first false b h = refl

or_second : (a b : Bool) → (a || b) ≡ false → b ≡ false
or_second true b h = absurd (cc h)
or_second false b h = h

pub before_none : (lines more : List (List ℕ)) → list_any is_separator lines ≡ false → lines_before (lines ++ more) ≡ lines ++ lines_before more
before_none [] more h = refl
before_none (line ∷ lines) more h =
    ap (λ t. cond t [] (line ∷ lines_before (lines ++ more))) (or_first (is_separator line) (list_any is_separator lines) h)
    ∙ ap (λ ls. line ∷ ls) (before_none lines more (or_second (is_separator line) (list_any is_separator lines) h))

pub behind_none : (lines more : List (List ℕ)) → list_any is_separator lines ≡ false → lines_behind (lines ++ more) ≡ lines_behind more
behind_none [] more h = refl
behind_none (line ∷ lines) more h =
    ap (λ t. cond t (lines ++ more) (lines_behind (lines ++ more))) (or_first (is_separator line) (list_any is_separator lines) h)
    ∙ behind_none lines more (or_second (is_separator line) (list_any is_separator lines) h)

-- such a line
pub before_some : (lines more : List (List ℕ)) → list_any is_separator lines ≡ true → lines_before (lines ++ more) ≡ lines_before lines
before_some [] more h = absurd (cc h)
before_some (line ∷ lines) more h = by (is_separator line) h (before_some lines more)
  where
    by : (t : Bool) → (t || list_any is_separator lines) ≡ true
        → (list_any is_separator lines ≡ true → lines_before (lines ++ more) ≡ lines_before lines)
        → cond t [] (line ∷ lines_before (lines ++ more)) ≡ cond t [] (line ∷ lines_before lines)
    by true h' on = refl
    by false h' on = ap (λ ls. line ∷ ls) (on h')

pub behind_some : (lines more : List (List ℕ)) → list_any is_separator lines ≡ true → lines_behind (lines ++ more) ≡ lines_behind lines ++ more
behind_some [] more h = absurd (cc h)
behind_some (line ∷ lines) more h = by (is_separator line) h (behind_some lines more)
  where
    by : (t : Bool) → (t || list_any is_separator lines) ≡ true
        → (list_any is_separator lines ≡ true → lines_behind (lines ++ more) ≡ lines_behind lines ++ more)
        → cond t (lines ++ more) (lines_behind (lines ++ more)) ≡ cond t lines (lines_behind lines) ++ more
    by true h' on = refl
    by false h' on = on h'

-- that line has bytes, so what stands before it is shorter
separator_empty : is_separator [] ≡ false
unfolding content
separator_empty = refl

separator_long : (line : List ℕ) → is_separator line ≡ true → 0 < length line
separator_long [] h = absurd (cc (sym separator_empty ∙ h))
separator_long (b ∷ line) h = omega arith

shorter : (lines : List (List ℕ)) → list_any is_separator lines ≡ true → length (concat (lines_before lines)) < length (concat lines)
shorter [] h = absurd (cc h)
shorter (line ∷ lines) h = by (is_separator line) refl h (shorter lines)
  where
    by : (t : Bool) → is_separator line ≡ t → (t || list_any is_separator lines) ≡ true
        → (list_any is_separator lines ≡ true → length (concat (lines_before lines)) < length (concat lines))
        → length (concat (cond t [] (line ∷ lines_before lines))) < length (line ++ concat lines)
    by true is h' on = omega (arith, separator_long line is, length-append line (concat lines))
    by false is h' on = omega (arith, on h', length-append line (concat (lines_before lines)), length-append line (concat lines))

pub none_if_all : (bytes : List ℕ) → length (cluster_text bytes) ≡ length bytes → list_any is_separator (raw_lines bytes) ≡ false
none_if_all bytes same = by (list_any is_separator (raw_lines bytes)) refl
  where
    by : (t : Bool) → list_any is_separator (raw_lines bytes) ≡ t → t ≡ false
    by true is = absurd (omega (arith, shorter (raw_lines bytes) is, same, ap length (joined bytes)))
    by false is = refl

pub all_if_none : (bytes : List ℕ) → list_any is_separator (raw_lines bytes) ≡ false → cluster_text bytes ≡ bytes
all_if_none bytes none =
    ap (λ ls. concat (lines_before ls)) (sym (nothing_behind (raw_lines bytes))) ∙ ap concat (before_none (raw_lines bytes) [] none)
    ∙ ap concat (nothing_behind (raw_lines bytes)) ∙ joined bytes
  where
    nothing_behind : (ls : List (List ℕ)) → ls ++ [] ≡ ls
    nothing_behind [] = refl
    nothing_behind (l ∷ ls) = ap (λ m. l ∷ m) (nothing_behind ls)

pub some_if_less : (bytes : List ℕ) → length (cluster_text bytes) ≢ length bytes → list_any is_separator (raw_lines bytes) ≡ true
some_if_less bytes other = by (list_any is_separator (raw_lines bytes)) refl
  where
    by : (t : Bool) → list_any is_separator (raw_lines bytes) ≡ t → t ≡ true
    by true is = refl
    by false is = absurd (other (ap length (all_if_none bytes is)))

-- no more lines stand behind it than there are
few_behind : (lines : List (List ℕ)) → length (lines_behind lines) ≤ length lines
few_behind [] = omega arith
few_behind (line ∷ lines) = by (is_separator line) (few_behind lines)
  where
    by : (t : Bool) → length (lines_behind lines) ≤ length lines → length (cond t lines (lines_behind lines)) ≤ length (line ∷ lines)
    by true on = omega arith
    by false on = omega (arith, on)

contents_many : (lines : List (List ℕ)) → length (map content lines) ≡ length lines
contents_many [] = refl
contents_many (line ∷ lines) = omega (arith, contents_many lines)

pub script_few : (bytes script : List ℕ) → map content (raw_lines script) ≡ script_lines bytes → length (raw_lines script) ≤ length (raw_lines bytes)
script_few bytes script behind =
    omega (arith, few_behind (raw_lines bytes), ap length behind, contents_many (raw_lines script), contents_many (lines_behind (raw_lines bytes)))
