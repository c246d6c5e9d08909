-- Texts of whole lines: where they are cut, and what stands behind them.
use Rattle.std.proofs.Common.{◌≡◌, ◌<◌, ◌≤◌, ◌+◌, ◌-◌, ◌==◌, ◌&&◌, ◌||◌, ℕ, suc, inl, inr, Bool, true, false, cond, List, [], ◌∷◌, ◌++◌, length, take}
use Rattle.std.proofs.Common.{get_or, filter, nat_lt, refl, sym, ap, subst, ◌∙◌, arith, append_assoc, append-nil}
use Rattle.std.specs.Prelude.{slice_index}
use Rattle.std.specs.List.{concat, onto_first}
use Rattle.std.proofs.lemmas.Bool.Decides.{nat_tests}
use Rattle.std.proofs.lemmas.List.{take_more}
use Rattle.std.proofs.lemmas.List.Elements.{filter-append}
use Rattle.rh_script.specs.Lines.{raw_lines, ends_with}
use Rattle.rh_manner.specs.Hearing.{AreWhole, has_end}

-- ---- where a text ends in an LF

-- bytes up to and with an LF, behind others
pub ends_whole : (rest bytes : List ℕ) (end : ℕ) → 0 < end → end ≤ length bytes → get_or bytes (end - 1) 0 ≡ 10 → AreWhole (rest ++ take end bytes)
ends_whole rest bytes end some within last =
    let back : end ≡ (end - 1) + 1 = omega (arith, some) in
    inr (
      rest ++ take (end - 1) bytes,
      ap (λ n. rest ++ take n bytes) back ∙ ap (λ t. rest ++ t) (take_more bytes (end - 1) 0 (omega (arith, some, within)))
          ∙ ap (λ b. rest ++ (take (end - 1) bytes ++ b ∷ [])) last ∙ sym (append_assoc rest (take (end - 1) bytes) (10 ∷ [])),
    )

pub none_whole : AreWhole []
none_whole = inl refl

pub whole_append : (xs ys : List ℕ) → AreWhole xs → AreWhole ys → AreWhole (xs ++ ys)
whole_append xs ys w (inl none) = subst AreWhole (sym (ap (λ t. xs ++ t) none ∙ append-nil xs)) w
whole_append xs ys w (inr (front, is)) = inr (xs ++ front, ap (λ t. xs ++ t) is ∙ sym (append_assoc xs front (10 ∷ [])))

-- ---- its lines

-- some lines, each with its LF
abbrev Ended : List (List ℕ) → Type 0
Ended [] = Unit {0}
Ended (line ∷ lines) = (ends_with 10 line ≡ true) × Ended lines

abbrev Some_lines : List (List ℕ) → Type 0
Some_lines [] = ⊥
Some_lines (line ∷ lines) = Unit {0}

-- one more byte before a text
abbrev one_more : Bool → ℕ → List (List ℕ) → List (List ℕ)
one_more end b lines = cond end ((b ∷ []) ∷ lines) (onto_first b lines)

last_same : (b c : ℕ) (line : List ℕ) → ends_with 10 (b ∷ c ∷ line) ≡ ends_with 10 (c ∷ line)
last_same b c line =
    let longer : nat_lt 0 (length (b ∷ c ∷ line)) ≡ true = grind (arith, nat_tests) in
    let long : nat_lt 0 (length (c ∷ line)) ≡ true = grind (arith, nat_tests) in
    let place : length (b ∷ c ∷ line) - 1 ≡ suc (length (c ∷ line) - 1) = omega arith in
    let first : nat_lt 0 (length (b ∷ c ∷ line)) ≡ nat_lt 0 (length (c ∷ line)) = longer ∙ sym long in
    let second : slice_index (b ∷ c ∷ line) (length (b ∷ c ∷ line) - 1) ≡ slice_index (c ∷ line) (length (c ∷ line) - 1) =
    ap (slice_index (b ∷ c ∷ line)) place in
    λ i. first i && (second i == 10)

end_behind : (b : ℕ) (line : List ℕ) → ends_with 10 line ≡ true → ends_with 10 (b ∷ line) ≡ true
end_behind b [] h = absurd (cc h)
end_behind b (c ∷ line) h = last_same b c line ∙ h

some_more : (end : Bool) (b : ℕ) (lines : List (List ℕ)) → Some_lines (one_more end b lines)
some_more true b lines = tt
some_more false b [] = tt
some_more false b (line ∷ lines) = tt

ended_more : (end : Bool) (b : ℕ) (lines : List (List ℕ)) → (b == 10) ≡ end → Some_lines lines → Ended lines → Ended (one_more end b lines)
ended_more true b lines is some ended = (is, ended)
ended_more false b [] is some ended = absurd some
ended_more false b (line ∷ lines) is some ended = (end_behind b line ended.0, ended.1)

append_more : (end : Bool) (b : ℕ) (lines more : List (List ℕ)) → Some_lines lines → one_more end b (lines ++ more) ≡ one_more end b lines ++ more
append_more true b lines more some = refl
append_more false b [] more some = absurd some
append_more false b (line ∷ lines) more some = refl

front_some : (front : List ℕ) → Some_lines (raw_lines (front ++ 10 ∷ []))
front_some [] = tt
front_some (b ∷ front) = some_more (b == 10) b (raw_lines (front ++ 10 ∷ []))

front_ended : (front : List ℕ) → Ended (raw_lines (front ++ 10 ∷ []))
front_ended [] = (refl, tt)
front_ended (b ∷ front) = ended_more (b == 10) b (raw_lines (front ++ 10 ∷ [])) refl (front_some front) (front_ended front)

front_append : (front ys : List ℕ) → raw_lines ((front ++ 10 ∷ []) ++ ys) ≡ raw_lines (front ++ 10 ∷ []) ++ raw_lines ys
front_append [] ys = refl
front_append (b ∷ front) ys =
    ap (one_more (b == 10) b) (front_append front ys) ∙ append_more (b == 10) b (raw_lines (front ++ 10 ∷ [])) (raw_lines ys) (front_some front)

pub lines_append : (xs ys : List ℕ) → AreWhole xs → raw_lines (xs ++ ys) ≡ raw_lines xs ++ raw_lines ys
lines_append xs ys (inl none) = ap (λ t. raw_lines (t ++ ys)) none ∙ ap (λ t. raw_lines t ++ raw_lines ys) (sym none)
lines_append xs ys (inr (front, is)) = ap (λ t. raw_lines (t ++ ys)) is ∙ front_append front ys ∙ ap (λ t. raw_lines t ++ raw_lines ys) (sym is)

ended_filter : (lines : List (List ℕ)) → Ended lines → filter (ends_with 10) lines ≡ lines
ended_filter [] h = refl
ended_filter (line ∷ lines) h =
    ap (λ t. cond t (line ∷ filter (ends_with 10) lines) (filter (ends_with 10) lines)) h.0 ∙ ap (λ ls. line ∷ ls) (ended_filter lines h.1)

all_whole : (xs : List ℕ) → AreWhole xs → filter (ends_with 10) (raw_lines xs) ≡ raw_lines xs
all_whole xs (inl none) = ap (λ t. filter (ends_with 10) (raw_lines t)) none ∙ ap raw_lines (sym none)
all_whole xs (inr (front, is)) = subst (λ t. filter (ends_with 10) (raw_lines t) ≡ raw_lines t) (sym is) (ended_filter (raw_lines (front ++ 10 ∷ [])) (front_ended front))

-- ---- what stands behind the last LF

not_first : (b : ℕ) (ys : List ℕ) → has_end (b ∷ ys) ≡ false → (b == 10) ≡ false
not_first b ys h = by (b == 10) (has_end ys) h
  where
    by : (s t : Bool) → (s || t) ≡ false → s ≡ false
    by true t h = absurd (cc h)
    by false t h = refl

not_behind : (b : ℕ) (ys : List ℕ) → has_end (b ∷ ys) ≡ false → has_end ys ≡ false
not_behind b ys h = by (b == 10) (has_end ys) h
  where
    by : (s t : Bool) → (s || t) ≡ false → t ≡ false
    by true t h = absurd (cc h)
    by false t h = h

one_line : (b : ℕ) (ys : List ℕ) → has_end (b ∷ ys) ≡ false → raw_lines (b ∷ ys) ≡ (b ∷ ys) ∷ []
one_line b [] h = ap (λ t. one_more t b []) (not_first b [] h)
one_line b (c ∷ ys) h =
    ap (λ t. one_more t b (raw_lines (c ∷ ys))) (not_first b (c ∷ ys) h) ∙ ap (onto_first b) (one_line c ys (not_behind b (c ∷ ys) h))

no_end : (b : ℕ) (ys : List ℕ) → has_end (b ∷ ys) ≡ false → ends_with 10 (b ∷ ys) ≡ false
no_end b [] h = not_first b [] h
no_end b (c ∷ ys) h = last_same b c ys ∙ no_end c ys (not_behind b (c ∷ ys) h)

none_ended : (ys : List ℕ) → has_end ys ≡ false → filter (ends_with 10) (raw_lines ys) ≡ []
none_ended [] h = refl
none_ended (b ∷ ys) h = ap (filter (ends_with 10)) (one_line b ys h) ∙ ap (λ t. cond t ((b ∷ ys) ∷ []) []) (no_end b ys h)

-- of whole lines and a front of a line, those are the lines that have come whole
pub whole_among : (xs ys : List ℕ) → AreWhole xs → has_end ys ≡ false → filter (ends_with 10) (raw_lines (xs ++ ys)) ≡ raw_lines xs
whole_among xs ys w none =
    ap (filter (ends_with 10)) (lines_append xs ys w) ∙ filter-append (ends_with 10) (raw_lines xs) (raw_lines ys)
    ∙ ap (λ ls. filter (ends_with 10) (raw_lines xs) ++ ls) (none_ended ys none) ∙ append-nil (filter (ends_with 10) (raw_lines xs)) ∙ all_whole xs w

-- ---- a text is its lines

onto : (b : ℕ) (lines : List (List ℕ)) → concat (onto_first b lines) ≡ b ∷ concat lines
onto b [] = refl
onto b (line ∷ lines) = refl

one_byte : (end : Bool) (b : ℕ) (lines : List (List ℕ)) → concat (one_more end b lines) ≡ b ∷ concat lines
one_byte true b lines = refl
one_byte false b lines = onto b lines

pub joined : (bytes : List ℕ) → concat (raw_lines bytes) ≡ bytes
joined [] = refl
joined (b ∷ bytes) = one_byte (b == 10) b (raw_lines bytes) ∙ ap (λ (bs : List ℕ). b ∷ bs) (joined bytes)

-- and there are no more lines than bytes
onto_few : (b : ℕ) (lines : List (List ℕ)) → length (onto_first b lines) ≤ length lines + 1
onto_few b [] = omega arith
onto_few b (line ∷ lines) = omega arith

few_more : (end : Bool) (b : ℕ) (lines : List (List ℕ)) → length (one_more end b lines) ≤ length lines + 1
few_more true b lines = omega arith
few_more false b lines = onto_few b lines

pub lines_few : (bytes : List ℕ) → length (raw_lines bytes) ≤ length bytes
lines_few [] = omega arith
lines_few (b ∷ bytes) = omega (arith, few_more (b == 10) b (raw_lines bytes), lines_few bytes)
