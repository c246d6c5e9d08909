-- The lines of any text: each ends in LF, but perhaps the last.
use Rattle.std.proofs.Common.{◌≡◌, ◌-◌, ◌==◌, ◌&&◌, ℕ, List, [], ◌∷◌, ◌++◌, length, take, nat_lt, Bool, true, false, cond, eqb, refl, sym, ap, ◌∙◌, subst, arith}
use Rattle.std.specs.Prelude.{slice_index}
use Rattle.std.specs.List.{onto_first}
use Rattle.std.proofs.lemmas.Bool.{eqb-true}
use Rattle.std.proofs.lemmas.Bool.Decides.{nat_tests}
use Rattle.std.proofs.lemmas.List.{get_or_at, take_at, length-append}
use Rattle.rh_script.specs.Lines.{raw_lines, content, ends_with, without_last, is_separator, lines_behind}
use Rattle.rh_story_laws.proofs.Texts.{free, not_both}

pub data Rows : List (List ℕ) → Type 0 where
  none : Rows []
  last : (x : List ℕ) → free x ≡ true → (x ≡ [] → ⊥) → Rows (x ∷ [])
  more : (x : List ℕ) (rest : List (List ℕ)) → free x ≡ true → Rows rest → Rows ((x ++ 10 ∷ []) ∷ rest)

free_onto : (b : ℕ) (x : List ℕ) → eqb b 10 ≡ false → free x ≡ true → free (b ∷ x) ≡ true
free_onto b x other u = ap (λ t. cond t false (free x)) other ∙ u

rows_onto : (b : ℕ) (lines : List (List ℕ)) → eqb b 10 ≡ false → Rows lines → Rows (onto_first b lines)
rows_onto b _ other none = last (b ∷ []) (free_onto b [] other refl) (λ e. cc e)
rows_onto b _ other (last x u some) = last (b ∷ x) (free_onto b x other u) (λ e. cc e)
rows_onto b _ other (more x rest u r) = more (b ∷ x) rest (free_onto b x other u) r

pub rows_of : (text : List ℕ) → Rows (raw_lines text)
rows_of [] = none
rows_of (b ∷ text) = by (eqb b 10) refl (rows_of text)
  where
    by : (t : Bool) → eqb b 10 ≡ t → Rows (raw_lines text) → Rows (cond t ((b ∷ []) ∷ raw_lines text) (onto_first b (raw_lines text)))
    by true is r = subst (λ a. Rows ((a ∷ []) ∷ raw_lines text)) (sym (eqb-true b 10 is)) (more [] (raw_lines text) refl r)
    by false is r = rows_onto b (raw_lines text) is r

pub rows_behind : (lines : List (List ℕ)) → Rows lines → Rows (lines_behind lines)
rows_behind _ none = none
rows_behind _ (last x u some) = by (is_separator x)
  where
    by : (t : Bool) → Rows (cond t [] [])
    by true = none
    by false = none
rows_behind _ (more x rest u r) = by (is_separator (x ++ 10 ∷ [])) (rows_behind rest r)
  where
    by : (t : Bool) → Rows (lines_behind rest) → Rows (cond t rest (lines_behind rest))
    by true behind = r
    by false behind = behind

-- ---- the end of a line
pub data Last : List ℕ → Type 0 where
  empty : Last []
  byte : (x : List ℕ) (b : ℕ) → Last (x ++ b ∷ [])

last_onto : (a : ℕ) (x : List ℕ) → Last x → Last (a ∷ x)
last_onto a _ empty = byte [] a
last_onto a _ (byte x b) = byte (a ∷ x) b

pub last_of : (x : List ℕ) → Last x
last_of [] = empty
last_of (a ∷ x) = last_onto a x (last_of x)

pub ends_is : (x : List ℕ) (b k : ℕ) → ends_with k (x ++ b ∷ []) ≡ (b == k)
ends_is x b k =
    let longer = length-append x (b ∷ []) in
    let place : length (x ++ b ∷ []) - 1 ≡ length x = omega (arith, longer) in
    let some : nat_lt 0 (length (x ++ b ∷ [])) ≡ true = grind (arith, nat_tests, longer) in
    let at : slice_index (x ++ b ∷ []) (length (x ++ b ∷ []) - 1) ≡ b =
    ap (slice_index (x ++ b ∷ [])) place ∙ get_or_at x b [] 0 (length x) refl in
    λ i. some i && (at i == k)

pub without_is : (x : List ℕ) (b k : ℕ) → without_last k (x ++ b ∷ []) ≡ cond (b == k) x (x ++ b ∷ [])
without_is x b k =
    let longer = length-append x (b ∷ []) in
    let front : take (length (x ++ b ∷ []) - 1) (x ++ b ∷ []) ≡ x = take_at x (b ∷ []) (length (x ++ b ∷ []) - 1) (omega (arith, longer)) in
    λ i. cond (ends_is x b k i) (front i) (x ++ b ∷ [])

pub content_is : (x : List ℕ) → content (x ++ 10 ∷ []) ≡ without_last 13 x
unfolding content
content_is x =
    ap (λ t. cond t (without_last 13 (without_last 10 (x ++ 10 ∷ []))) (x ++ 10 ∷ [])) (ends_is x 10 10)
    ∙ ap (without_last 13) (without_is x 10 10)

free_last : (x : List ℕ) (b : ℕ) → free (x ++ b ∷ []) ≡ true → eqb b 10 ≡ false
free_last [] b u = by (eqb b 10) u
  where
    by : (t : Bool) → cond t false true ≡ true → t ≡ false
    by true h = not_both h
    by false h = refl
free_last (a ∷ x) b u = by (eqb a 10) u (free_last x b)
  where
    by : (t : Bool) → cond t false (free (x ++ b ∷ [])) ≡ true → (free (x ++ b ∷ []) ≡ true → eqb b 10 ≡ false) → eqb b 10 ≡ false
    by true h others = not_both h
    by false h others = others h

pub unended : (x : List ℕ) → free x ≡ true → ends_with 10 x ≡ false
unended x u = by x (last_of x) u
  where
    by : (y : List ℕ) → Last y → free y ≡ true → ends_with 10 y ≡ false
    by _ empty v = refl
    by _ (byte y b) v = ends_is y b 10 ∙ free_last y b v

pub content_bare : (x : List ℕ) → free x ≡ true → content x ≡ x
unfolding content
content_bare x u = ap (λ t. cond t (without_last 13 (without_last 10 x)) x) (unended x u)
