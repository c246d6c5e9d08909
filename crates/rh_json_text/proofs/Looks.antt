-- From looks at several bytes at once to texts that can stand in a string as they are.
use Rattle.std.proofs.Common.{◌≡◌, ℕ, zero, suc, ◌+◌, ◌-◌, ◌%◌, ◌^◌, ◌<◌, ◌≤◌, Bool, true, false, cond, eqb, ltb, ◌==◌, ◌||◌, List, [], ◌∷◌, ◌++◌, length, drop, get_or, map, replicate, bit_or, refl, sym, ap, ap₂, ◌∙◌, arith, get_or-take, get_or-drop}
use Rattle.std.proofs.lemmas.Bool.{eqb-true}
use Rattle.std.proofs.lemmas.List.{get_or-map, length-map}
use Rattle.std.proofs.lemmas.Simd.{length-chunk, zip2_splat, zip2_of_maps, mask_l-mod, map-map}
use Rattle.std.specs.Bool.{OnTrue}
use Rattle.std.specs.List.{flat_map}
use lib.Lanes.{chunk, mask_l, zip2, top}
use Rattle.rh_json_text.specs.Json.{is_escaped, escaped}
use Rattle.rh_json_text.specs.Plain.{PlainBetween}

-- a lane where two bytes are the same, and one where the first is below the other
abbrev hit : ℕ → ℕ → ℕ
hit a b = cond (eqb a b) 255 0

abbrev below : ℕ → ℕ → ℕ
below a b = cond (ltb a b) 255 0

-- the top bit of a lane of three tests
one_test : (small quote slash : Bool) → top 7 (bit_or (cond small 255 0) (bit_or (cond quote 255 0) (cond slash 255 0))) ≡ (small || (quote || slash))
one_test true true true = refl
one_test true true false = refl
one_test true false true = refl
one_test true false false = refl
one_test false true true = refl
one_test false true false = refl
one_test false false true = refl
one_test false false false = refl

each_test : (v : List ℕ) → map (λ (b : ℕ). top 7 (bit_or (below b 32) (bit_or (hit b 34) (hit b 92)))) v ≡ map is_escaped v
unfolding is_escaped
each_test [] = refl
each_test (b ∷ v) = ap₂ (λ (t : Bool) (ts : List Bool). t ∷ ts) (one_test (ltb b 32) (eqb b 34) (eqb b 92)) (each_test v)

-- no bit of a mask is set
none_set : (ms : List Bool) → mask_l ms ≡ 0 → (k : ℕ) → k < length ms → get_or ms k false ≡ false
none_set [] none k inside = refl
none_set (true ∷ ms) none k inside = absurd (omega (arith, none))
none_set (false ∷ ms) none zero inside = refl
none_set (false ∷ ms) none (suc k) inside = none_set ms (omega (arith, none)) k (omega (arith, inside))

plain_from_mask : (d : List ℕ) (i n : ℕ) → i + n ≤ length d → mask_l (map is_escaped (chunk i n d)) ≡ 0 → PlainBetween d i (i + n)
plain_from_mask d i n room none k p q =
    let v = chunk i n d in
    let long = length-chunk i n d room in
    let within : k - i < length v = omega (arith, long) in
    let back : i + (k - i) ≡ k = omega arith in
    ap is_escaped (sym (get_or-take n (drop i d) (k - i) 0 (omega arith) ∙ get_or-drop i d (k - i) 0 ∙ ap (λ (j : ℕ). get_or d j 0) back))
    ∙ sym (get_or-map is_escaped v (k - i) 0 false within)
    ∙ none_set (map is_escaped v) none (k - i) (omega (arith, within, length-map v is_escaped))

on_true : (b : Bool) (P : Type 0) → (b ≡ true → P) → OnTrue b P
on_true true P f = f refl
on_true false P f = tt

-- the three tests of n bytes, as the code makes them
pub plain_from_lanes : (d : List ℕ) (i n : ℕ) → i + n ≤ length d → n ≤ 64
    → OnTrue (mask_l (map (top 7) (zip2 bit_or (zip2 below (chunk i n d) (replicate n 32)) (zip2 bit_or (zip2 hit (chunk i n d) (replicate n 34)) (zip2 hit (chunk i n d) (replicate n 92))))) % 2 ^ 64 == 0)
    (PlainBetween d i (i + n))
plain_from_lanes d i n room few =
    let v = chunk i n d in
    let long = length-chunk i n d room in
    let joined = zip2_of_maps bit_or (λ (b : ℕ). below b 32) (λ (b : ℕ). bit_or (hit b 34) (hit b 92)) v (zip2_splat below v n 32 long)
    (zip2_of_maps bit_or (λ (b : ℕ). hit b 34) (λ (b : ℕ). hit b 92) v (zip2_splat hit v n 34 long) (zip2_splat hit v n 92 long)) in
    let tests = ap (map (top 7)) joined ∙ map-map (top 7) (λ (b : ℕ). bit_or (below b 32) (bit_or (hit b 34) (hit b 92))) v ∙ each_test v in
    let mask = ap (λ (ms : List Bool). mask_l ms % 2 ^ 64) tests ∙ mask_l-mod (map is_escaped v) 64 (omega (arith, long, length-map v is_escaped)) in
    on_true _ _ (λ e. plain_from_mask d i n room (sym mask ∙ eqb-true _ 0 e))

-- a byte that can stand in a string does
stands : (b : ℕ) → is_escaped b ≡ false → escaped b ≡ b ∷ []
unfolding is_escaped escaped
stands b clean = grind arith

-- a text of which no byte is escaped
stands_whole : (d : List ℕ) → PlainBetween d 0 (length d) → flat_map escaped d ≡ d
stands_whole [] plain = refl
stands_whole (b ∷ d) plain =
    ap₂ (λ (front rest : List ℕ). front ++ rest) (stands b (plain 0 (omega arith) (omega arith)))
    (stands_whole d (λ k p q. plain (suc k) (omega arith) (omega (arith, q))))

pub stands_on_plain : (b : Bool) (d : List ℕ) → OnTrue b (PlainBetween d 0 (length d)) → OnTrue b (flat_map escaped d ≡ d)
stands_on_plain true d plain = stands_whole d plain
stands_on_plain false d plain = tt
