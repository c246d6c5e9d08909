-- The bits that the comparison of a block of 32 bytes sets tell how many of them stand before the first mark.
use Rattle.std.proofs.Common.{◌≡◌, ◌≤◌, ◌<◌, ℕ, zero, suc, ◌+◌, ◌%◌, ◌/◌, ◌*◌, ◌^◌, Bool, true, false, not, cond, eqb, ◌||◌, ◌&&◌, List, [], ◌∷◌, length, take, drop, map, get_or, replicate, bit_and, w8, Fits, refl, sym, ap, ap₂, ◌∙◌, inl, inr, arith}
use Rattle.std.proofs.lemmas.Bool.{and_parts, cases_lt, eq-eqb, ne_eqb, eqb-true}
use Rattle.std.proofs.lemmas.List.{get_or-map, length-map, take-take, ext_get_or}
use Rattle.std.proofs.lemmas.Nat.{and_le_r}
use Rattle.std.proofs.lemmas.Simd.{Each1-all, Each1-zip2, Each2-splat, length-chunk, chunk-fits, zip2_splat, length-zip2, mask_l-mod, first_set_mask_l, run_in_chunk_le, swz_l, SwzOk, SwzOk-from_below, length-swz_l, get_or-swz_l_below}
use Rattle.std.specs.List.{list_any, prefix_len}
use lib.Count.{count_trailing_zeros}
use lib.Lanes.{Each1, chunk, mask_l, zip2, top}
use Rattle.rh_findings.specs.declared.plain.TheConstants.{MARKS}
use Rattle.rh_findings.specs.Scan.{is_marked}

-- ---- tests of all numbers below one

abbrev all_below : (ℕ → Bool) → ℕ → Bool
all_below f zero = true
all_below f (suc n) = f n && all_below f n

each_below : (f : ℕ → Bool) (n : ℕ) → all_below f n ≡ true → (i : ℕ) → i < n → f i ≡ true
each_below f zero h i l = absurd (omega (arith, l))
each_below f (suc n) h i l = elim (cases_lt i n) [
  | inl less ↦ each_below f n (and_parts (f n) (all_below f n) h).1 i less
  | inr more ↦ (let e : n ≡ i = omega (arith, l, more) in ap f (sym e) ∙ (and_parts (f n) (all_below f n) h).0)
]

-- ---- one byte

-- the byte of the table that has the low bits of another
abbrev alike : ℕ → ℕ
alike b = get_or (take 16 MARKS) (bit_and b 15) 0

abbrev same : Bool → Bool → Bool
same true t = t
same false t = not t

are_same : (s t : Bool) → same s t ≡ true → s ≡ t
are_same true true h = refl
are_same true false h = cc
are_same false true h = cc
are_same false false h = refl

marked_alike : (b : ℕ) → b < 256 → eqb (alike b) b ≡ is_marked b
marked_alike b small = are_same (eqb (alike b) b) (is_marked b) (each_below (λ (a : ℕ). same (eqb (alike a) a) (is_marked a)) 256 refl b small)

-- ---- the lanes

abbrev hit : ℕ → ℕ → ℕ
hit a b = cond (eqb a b) 255 0

top_of_lane : (t : Bool) → top 7 (cond t 255 0) ≡ t
top_of_lane true = refl
top_of_lane false = refl

each_top : (v : List ℕ) → Each1 (Fits w8) v → map (top 7) (zip2 hit (map alike v) v) ≡ map is_marked v
each_top [] fits = refl
each_top (b ∷ v) fits = ap₂ (λ (t : Bool) (ts : List Bool). t ∷ ts) (top_of_lane (eqb (alike b) b) ∙ marked_alike b fits.0.fits) (each_top v fits.1)

abbrev places : List ℕ → List ℕ
places v = zip2 bit_and v (replicate 32 15)

pub places_fit : (v : List ℕ) → length v ≡ 32 → SwzOk w8 16 32 0 (places v)
places_fit v long =
    let small = Each1-all (λ (a : ℕ). bit_and a 15 < 16) (λ (a : ℕ). omega (arith, and_le_r a 15)) v in
    SwzOk-from_below w8 16 2 32 0 (places v) refl (omega (arith, length-zip2 bit_and v (replicate 32 15) long))
    (Each1-zip2 bit_and (λ (j : ℕ). j < 16) v (replicate 32 15) (Each2-splat (λ (a b : ℕ). bit_and a b < 16) v 32 15 small))

-- the table is twice its first half
abbrev at_place : ℕ → ℕ → Bool
at_place i j = eqb (get_or MARKS (16 * ((0 + i) / 16) + j) 0) (get_or (take 16 MARKS) j 0)

looked_up : (v : List ℕ) → length v ≡ 32 → swz_l w8 16 MARKS 0 (places v) ≡ map alike v
looked_up v room =
    let js = places v in
    let e : js ≡ map (λ (b : ℕ). bit_and b 15) v = zip2_splat bit_and v 32 15 room in
    let long : length js ≡ 32 = ap length e ∙ length-map v (λ (b : ℕ). bit_and b 15) ∙ room in
    ext_get_or 0 _ _ (length-swz_l w8 16 MARKS 0 js ∙ long ∙ sym (length-map v alike ∙ room)) (λ i h.
    let lt : i < 32 = omega (arith, length-swz_l w8 16 MARKS 0 js, long) in
    let is : get_or js i 0 ≡ bit_and (get_or v i 0) 15 = ap (λ (l : List ℕ). get_or l i 0) e ∙ get_or-map (λ (b : ℕ). bit_and b 15) v i 0 0 (omega (arith, room, lt)) in
    let below : get_or js i 0 < 16 = omega (arith, is, and_le_r (get_or v i 0) 15) in
    let row = each_below (λ (a : ℕ). all_below (at_place a) 16) 32 refl i lt in
    get_or-swz_l_below w8 16 MARKS 0 js i (omega (arith, long, lt)) below
    ∙ eqb-true _ _ (each_below (at_place i) 16 row (get_or js i 0) below)
    ∙ ap (λ (k : ℕ). get_or (take 16 MARKS) k 0) is ∙ sym (get_or-map alike v i 0 0 (omega (arith, room, lt))))

-- the comparison of 32 bytes, as the code makes it
abbrev compared : List ℕ → ℕ
compared v = mask_l (map (top 7) (zip2 hit (swz_l w8 16 MARKS 0 (places v)) v)) % 2 ^ 64

-- the bits that the comparison of 32 bytes sets are the marks
compared_marks : (v : List ℕ) → length v ≡ 32 → Each1 (Fits w8) v → compared v ≡ mask_l (map is_marked v)
compared_marks v long fits =
    ap (λ (l : List ℕ). mask_l (map (top 7) (zip2 hit l v)) % 2 ^ 64) (looked_up v long)
    ∙ ap (λ (ms : List Bool). mask_l ms % 2 ^ 64) (each_top v fits)
    ∙ mask_l-mod (map is_marked v) 64 (omega (arith, long, length-map v is_marked))

-- what stands before the first that passes
none_before : (p : ℕ → Bool) (v : List ℕ) → list_any p (take (prefix_len (λ (b : ℕ). not (p b)) v) v) ≡ false
none_before p [] = refl
none_before p (b ∷ v) = by (p b) refl (prefix_len (λ (a : ℕ). not (p a)) v) (none_before p v)
  where
    by : (t : Bool) → p b ≡ t → (k : ℕ) → list_any p (take k v) ≡ false → list_any p (take (cond (not t) (1 + k) 0) (b ∷ v)) ≡ false
    by true e k rest = refl
    by false e k rest =
        let one : 1 + k ≡ suc k = omega arith in
        ap (λ (n : ℕ). list_any p (take n (b ∷ v))) one ∙ ap (λ (t : Bool). t || list_any p (take k v)) e ∙ rest

-- how many of 32 bytes stand before the first mark, where a mark sets a bit
counted : (d : List ℕ) (i : ℕ) → i + 32 ≤ length d → ((k : ℕ) → Fits w8 (get_or d k 0)) → (r : ℕ)
    → cond (eqb (compared (chunk i 32 d)) 0) 32 (count_trailing_zeros 64 (compared (chunk i 32 d))) ≡ r
    → (r ≤ 32) × (list_any is_marked (take r (drop i d)) ≡ false)
counted d i room fits r told =
    let v = chunk i 32 d in
    let long = length-chunk i 32 d room in
    let first : r ≡ prefix_len (λ (b : ℕ). not (is_marked b)) v =
    sym told
    ∙ ap (λ (m : ℕ). cond (eqb m 0) 32 (count_trailing_zeros 64 m)) (compared_marks v long (chunk-fits w8 i 32 d fits))
    ∙ first_set_mask_l is_marked v 32 long (omega arith) in
    let within : r ≤ 32 = run_in_chunk_le is_marked d i 32 r 0 room first in
    (within, ap (list_any is_marked) (sym (take-take r 32 (drop i d) within) ∙ ap (λ (k : ℕ). take k v) first) ∙ none_before is_marked v)

-- where the comparison of 32 bytes sets no bit, none of them is a mark
pub none_marked : (d : List ℕ) (i : ℕ) → i + 32 ≤ length d → ((k : ℕ) → Fits w8 (get_or d k 0)) → compared (chunk i 32 d) ≡ 0
    → list_any is_marked (take 32 (drop i d)) ≡ false
none_marked d i room fits e =
    (counted d i room fits 32 (ap (λ (t : Bool). cond t 32 (count_trailing_zeros 64 (compared (chunk i 32 d)))) (eq-eqb _ 0 e))).1

-- where the comparison of 32 bytes sets a bit, no byte before the lowest such bit is a mark
pub some_marked : (d : List ℕ) (i : ℕ) → i + 32 ≤ length d → ((k : ℕ) → Fits w8 (get_or d k 0)) → (compared (chunk i 32 d) ≡ 0 → ⊥)
    → (count_trailing_zeros 64 (compared (chunk i 32 d)) ≤ 32)
    × (list_any is_marked (take (count_trailing_zeros 64 (compared (chunk i 32 d))) (drop i d)) ≡ false)
some_marked d i room fits e =
    counted d i room fits (count_trailing_zeros 64 (compared (chunk i 32 d)))
    (ap (λ (t : Bool). cond t 32 (count_trailing_zeros 64 (compared (chunk i 32 d)))) (ne_eqb _ 0 e))
