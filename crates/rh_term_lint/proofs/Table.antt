-- Levenshtein's distance with each row of the table written out, so that rows over whole names can be computed.
use Rattle.std.proofs.Common.{◌≡◌, ◌≤◌, ◌+◌, ◌-◌, ◌/◌, ◌&&◌, ◌∙◌, arith, zero, suc, sym, ap, refl, nat_eq, nat_le, ℕ, Bool, cond, find, List, [], ◌∷◌, map, length, get_or, Option, None}
use Rattle.std.specs.List.{filter, range_with_len}
use Rattle.std.specs.Str.{chars}
use Rattle.std.proofs.lemmas.List.FromFn.{get_or-map-range_with_len, get_or-range_with_len}
use mathlib.Core.Path.{fun_ext}
use Rattle.strsim.specs.Edits.{next_row, rows, cost_at}
use Rattle.rh_base.specs.Lists.{lightest, head}
use Rattle.rh_term_lint.specs.declared.names.ReadName.{ReadName}
use Rattle.rh_term_lint.specs.Near.{edits, is_near, nearest}
use Rattle.rh_term_lint.specs.Meant.{word_of, is_read, meant}

-- the last row, from the row before it
abbrev pub last_row : List ℕ → List ℕ → ℕ → List ℕ → List ℕ
last_row [] ys n before = before
last_row (x ∷ xs) ys n before =
    last_row xs ys (suc n) (map (next_row (cost_at nat_eq x ys) (λ k. get_or before k 0) (suc n)) (range_with_len 0 (length ys + 1)))

-- a row depends on the row before it no further than it is long
row_agrees : (c b d : ℕ → ℕ) (first m : ℕ) → ((j : ℕ) → j ≤ m → b j ≡ d j) → (j : ℕ) → j ≤ m → next_row c b first j ≡ next_row c d first j
unfolding next_row
row_agrees c b d first m h zero l = refl
row_agrees c b d first m h (suc j) l =
    let left = row_agrees c b d first m h j (omega (arith, l)) in
    let above_left = h j (omega (arith, l)) in
    let above = h (suc j) l in
    cc

rows_agree : (xs ys : List ℕ) (n : ℕ) (b d : ℕ → ℕ) → ((j : ℕ) → j ≤ length ys → b j ≡ d j) → (k : ℕ) → k ≤ length ys
    → rows nat_eq xs ys n b k ≡ rows nat_eq xs ys n d k
unfolding rows
rows_agree [] ys n b d h k l = h k l
rows_agree (x ∷ xs) ys n b d h k l =
    rows_agree xs ys (suc n) (next_row (cost_at nat_eq x ys) b (suc n)) (next_row (cost_at nat_eq x ys) d (suc n))
    (row_agrees (cost_at nat_eq x ys) b d (suc n) (length ys) h) k l

last_row_is : (xs ys : List ℕ) (n : ℕ) (before : List ℕ) (k : ℕ) → k ≤ length ys
    → get_or (last_row xs ys n before) k 0 ≡ rows nat_eq xs ys n (λ j. get_or before j 0) k
unfolding rows
last_row_is [] ys n before k l = refl
last_row_is (x ∷ xs) ys n before k l =
    last_row_is xs ys (suc n) written k l
    ∙ rows_agree xs ys (suc n) (λ j. get_or written j 0) row
    (λ j m. get_or-map-range_with_len row 0 (length ys + 1) j j 0 (omega (arith, m)) (omega arith)) k l
  where
    row : ℕ → ℕ
    row = next_row (cost_at nat_eq x ys) (λ j. get_or before j 0) (suc n)

    written : List ℕ
    written = map row (range_with_len 0 (length ys + 1))

abbrev pub computed_edits : List ℕ → List ℕ → ℕ
computed_edits word name =
    get_or (last_row (chars word) (chars name) 0 (range_with_len 0 (length (chars name) + 1))) (length (chars name)) 0

pub edits_is : (word name : List ℕ) → edits word name ≡ computed_edits word name
unfolding edits
edits_is word name =
    sym (last_row_is (chars word) (chars name) 0 first (length (chars name)) (omega arith)
    ∙ rows_agree (chars word) (chars name) 0 (λ j. get_or first j 0) (λ j. j)
    (λ j m. get_or-range_with_len 0 (length (chars name) + 1) j 0 (omega (arith, m)) ∙ plus_none j) (length (chars name)) (omega arith))
  where
    first : List ℕ
    first = range_with_len 0 (length (chars name) + 1)

    plus_none : (j : ℕ) → 0 + j ≡ j
    plus_none j = omega arith

abbrev pub computed_near : List ℕ → List ℕ → Bool
computed_near word name =
    nat_le (length word - length name) 2 && nat_le (length name - length word) 2
    && nat_le (computed_edits word name) 2 && nat_le (computed_edits word name) (length name / 2)

pub near_is : (word name : List ℕ) → is_near word name ≡ computed_near word name
unfolding is_near
near_is word name =
    ap (λ d. nat_le (length word - length name) 2 && nat_le (length name - length word) 2 && nat_le d 2 && nat_le d (length name / 2))
    (edits_is word name)

abbrev pub computed_meant : List ReadName → List ℕ → Option ReadName
computed_meant names word = cond (is_read names word) None (find (λ name. computed_near word (word_of name)) names)

pub meant_is : (names : List ReadName) (word : List ℕ) → meant names word ≡ computed_meant names word
unfolding meant
meant_is names word =
    ap (λ (near : List ℕ → Bool). cond (is_read names word) None (find (λ name. near (word_of name)) names)) (fun_ext (near_is word))

abbrev pub computed_nearest : List ℕ → List (List ℕ) → Option (List ℕ)
computed_nearest word names = head (lightest (computed_edits word) (filter (computed_near word) names))

pub nearest_is : (word : List ℕ) (names : List (List ℕ)) → nearest word names ≡ computed_nearest word names
unfolding nearest
nearest_is word names =
    ap (λ (near : List ℕ → Bool). head (lightest (edits word) (filter near names))) (fun_ext (near_is word))
    ∙ ap (λ (weight : List ℕ → ℕ). head (lightest weight (filter (computed_near word) names))) (fun_ext (edits_is word))
