-- A list of changes that is cut where records end, read, changed, shortened and made longer.
use Rattle.std.proofs.Common.{◌≡◌, ℕ, zero, suc, ◌+◌, ◌-◌, ◌*◌, ◌^◌, ◌<◌, ◌≤◌, List, [], ◌∷◌, ◌++◌, length, take, drop, get_or, set, refl, sym, ap, subst, ◌∙◌, arith, Fits, w64}
use Rattle.std.proofs.lemmas.List.{length-take-le, length-drop, length-append, take_all, take-take, take-append-le, take_at, drop_at, drop-drop, drop-take}
use Rattle.std.proofs.Math.Nat.{mul-le-mul_right}
use Rattle.rh_history.specs.Records.{part, cut_at, AreEnds, begin_at}

pub length-cut : {C : Type 0} (s : ℕ) (ends : List ℕ) (es : List C) → length (cut_at s ends es) ≡ length ends
length-cut s [] es = refl
length-cut s (e ∷ ends) es = ap (λ n. suc n) (length-cut e ends es)

-- ---- the places
pub ends_within : {C : Type 0} (s : ℕ) (ends : List ℕ) (es : List C) → AreEnds s ends es → s ≤ length es
ends_within s [] es are = omega (arith, are)
ends_within s (e ∷ ends) es are = omega (arith, are.0, ends_within e ends es are.1)

pub begin_late : {C : Type 0} (s : ℕ) (ends : List ℕ) (es : List C) (k : ℕ) → AreEnds s ends es → s ≤ begin_at s ends k
begin_late s ends es zero are = omega arith
begin_late s [] es (suc k) are = omega arith
begin_late s (e ∷ ends) es (suc k) are = omega (arith, are.0, begin_late e ends es k are.1)

pub begin_within : {C : Type 0} (s : ℕ) (ends : List ℕ) (es : List C) (k : ℕ) → AreEnds s ends es → begin_at s ends k ≤ length es
begin_within s ends es zero are = ends_within s ends es are
begin_within s [] es (suc k) are = ends_within s [] es are
begin_within s (e ∷ ends) es (suc k) are = begin_within e ends es k are.1

pub begin_rises : {C : Type 0} (s : ℕ) (ends : List ℕ) (es : List C) (k : ℕ) → AreEnds s ends es → begin_at s ends k ≤ begin_at s ends (suc k)
begin_rises s [] es zero are = omega arith
begin_rises s [] es (suc k) are = omega arith
begin_rises s (e ∷ ends) es zero are = are.0
begin_rises s (e ∷ ends) es (suc k) are = begin_rises e ends es k are.1

pub end_is : (s : ℕ) (ends : List ℕ) (k d : ℕ) → k < length ends → get_or ends k d ≡ begin_at s ends (suc k)
end_is s [] k d inside = absurd (omega (arith, inside))
end_is s (e ∷ ends) zero d inside = refl
end_is s (e ∷ ends) (suc k) d inside = end_is e ends k d (omega (arith, inside))

-- ---- a record
pub cut_get : {C : Type 0} (s : ℕ) (ends : List ℕ) (es : List C) (k : ℕ) (d : List C) → k < length ends
    → get_or (cut_at s ends es) k d ≡ part (begin_at s ends k) (begin_at s ends (suc k)) es
cut_get s [] es k d inside = absurd (omega (arith, inside))
cut_get s (e ∷ ends) es zero d inside = refl
cut_get s (e ∷ ends) es (suc k) d inside = cut_get e ends es k d (omega (arith, inside))

-- ---- edits of which only the number counts, or only those behind a place
pub ends_length : {C : Type 0} (s : ℕ) (ends : List ℕ) (es fs : List C) → length fs ≡ length es → AreEnds s ends es → AreEnds s ends fs
ends_length s [] es fs same are = are ∙ sym same
ends_length s (e ∷ ends) es fs same are = (are.0, ends_length e ends es fs same are.1)

drop_later : {C : Type 0} (s e : ℕ) (es fs : List C) → s ≤ e → drop s fs ≡ drop s es → drop e fs ≡ drop e es
drop_later s e es fs le same =
    let split : e ≡ s + (e - s) = omega (arith, le) in
    ap (λ n. drop n fs) split ∙ sym (drop-drop (e - s) s fs) ∙ ap (drop (e - s)) same ∙ drop-drop (e - s) s es ∙ ap (λ n. drop n es) (sym split)

pub cut_later : {C : Type 0} (s : ℕ) (ends : List ℕ) (es fs : List C) → AreEnds s ends es → drop s fs ≡ drop s es → cut_at s ends fs ≡ cut_at s ends es
cut_later s [] es fs are same = refl
cut_later s (e ∷ ends) es fs are same = (λ i. take (e - s) (same i) ∷ cut_later e ends es fs are.1 (drop_later s e es fs are.0 same) i)

-- the part between two places lies in what comes before the later one
part_early : {C : Type 0} (s e : ℕ) (es fs : List C) → take e fs ≡ take e es → s ≤ e → part s e fs ≡ part s e es
part_early s e es fs same le =
    let split : e ≡ s + (e - s) = omega (arith, le) in
    sym (drop-take s (e - s) fs) ∙ ap (λ n. drop s (take n fs)) (sym split) ∙ ap (drop s) same ∙ ap (λ n. drop s (take n es)) split ∙ drop-take s (e - s) es

take_earlier : {C : Type 0} (e b : ℕ) (es fs : List C) → e ≤ b → take b fs ≡ take b es → take e fs ≡ take e es
take_earlier e b es fs le same = sym (take-take e b fs le) ∙ ap (take e) same ∙ take-take e b es le

-- ---- a record that is changed to one with as many edits
module _ {C : Type 0} (es ys fs : List C) (b f : ℕ) (fs_is : fs ≡ take b es ++ (ys ++ drop f es)) (within : b ≤ length es) (order : b ≤ f) (inside : f ≤ length es)
    (many : length ys ≡ f - b) where
  front : length (take b es) ≡ b
  front = length-take-le b es within

  pub set_take : take b fs ≡ take b es
  set_take = ap (take b) fs_is ∙ take_at (take b es) (ys ++ drop f es) b front

  pub set_part : part b f fs ≡ ys
  set_part = ap (λ xs. take (f - b) (drop b xs)) fs_is ∙ ap (take (f - b)) (drop_at (take b es) (ys ++ drop f es) b front) ∙ take_at ys (drop f es) (f - b) many

  pub set_drop : drop f fs ≡ drop f es
  set_drop =
      let split : f ≡ b + (f - b) = omega (arith, order) in
      ap (λ n. drop n fs) split ∙ sym (drop-drop (f - b) b fs) ∙ ap (λ xs. drop (f - b) (drop b xs)) fs_is
      ∙ ap (drop (f - b)) (drop_at (take b es) (ys ++ drop f es) b front)
      ∙ drop_at ys (drop f es) (f - b) many

  pub set_length : length fs ≡ length es
  set_length = omega (
    arith,
    ap length fs_is,
    length-append (take b es) (ys ++ drop f es),
    length-append ys
        (drop f es),
    front,
    many,
    length-drop f es,
    order,
    inside,
  )

pub cut_set : {C : Type 0} (s : ℕ) (ends : List ℕ) (es ys fs : List C) (k : ℕ) → AreEnds s ends es → k < length ends
    → take (begin_at s ends k) fs ≡ take (begin_at s ends k) es
    → part (begin_at s ends k) (begin_at s ends (suc k)) fs ≡ ys
    → drop (begin_at s ends (suc k)) fs ≡ drop (begin_at s ends (suc k)) es
    → cut_at s ends fs ≡ set (cut_at s ends es) k ys
cut_set s [] es ys fs k are inside before at behind = absurd (omega (arith, inside))
cut_set s (e ∷ ends) es ys fs zero are inside before at behind = (λ i. at i ∷ cut_later e ends es fs are.1 behind i)
cut_set s (e ∷ ends) es ys fs (suc k) are inside before at behind =
    (λ i. part_early s e es fs (take_earlier e (begin_at e ends k) es fs (begin_late e ends es k are.1) before) are.0 i
    ∷ cut_set e ends es ys fs k are.1 (omega (arith, inside)) before at behind i)

-- ---- fewer records
pub cut_take : {C : Type 0} (s : ℕ) (ends : List ℕ) (es : List C) (c : ℕ) → AreEnds s ends es
    → cut_at s (take c ends) (take (begin_at s ends c) es) ≡ take c (cut_at s ends es)
cut_take s ends es zero are = refl
cut_take s [] es (suc c) are = refl
cut_take s (e ∷ ends) es (suc c) are =
    let b : ℕ = begin_at e ends c in
    (λ i. part_early s e es (take b es) (take-take e b es (begin_late e ends es c are.1)) are.0 i ∷ cut_take e ends es c are.1 i)

pub ends_take : {C : Type 0} (s : ℕ) (ends : List ℕ) (es : List C) (c : ℕ) → AreEnds s ends es → AreEnds s (take c ends) (take (begin_at s ends c) es)
ends_take s ends es zero are = sym (length-take-le s es (ends_within s ends es are))
ends_take s [] es (suc c) are = sym (length-take-le s es (ends_within s [] es are))
ends_take s (e ∷ ends) es (suc c) are = (are.0, ends_take e ends es c are.1)

-- ---- one more record
pub cut_push : {C : Type 0} (s : ℕ) (ends : List ℕ) (es ys : List C) → AreEnds s ends es
    → cut_at s (ends ++ length (es ++ ys) ∷ []) (es ++ ys) ≡ cut_at s ends es ++ ys ∷ []
cut_push s [] es ys are =
    let many : length ys ≡ length (es ++ ys) - s = omega (arith, are, length-append es ys) in
    ap (λ xs. xs ∷ []) (ap (take (length (es ++ ys) - s)) (drop_at es ys s (sym are)) ∙ take_all (length (es ++ ys) - s) ys (omega (arith, many)))
cut_push s (e ∷ ends) es ys are =
    (λ i. part_early s e es (es ++ ys) (take-append-le e es ys (ends_within e ends es are.1)) are.0 i ∷ cut_push e ends es ys are.1 i)

pub ends_push : {C : Type 0} (s : ℕ) (ends : List ℕ) (es ys : List C) → AreEnds s ends es → AreEnds s (ends ++ length (es ++ ys) ∷ []) (es ++ ys)
ends_push s [] es ys are = (omega (arith, are, length-append es ys), refl)
ends_push s (e ∷ ends) es ys are = (are.0, ends_push e ends es ys are.1)

-- ---- a record, as a function meets it: b and f are where it begins and ends
module _ {C : Type 0} (ends : List ℕ) (es : List C) (v : List (List C)) (k d b f : ℕ) (are : AreEnds 0 ends es) (is : cut_at 0 ends es ≡ v) (inside : k < length v)
    (begins : b ≡ begin_at 0 ends k) (ends_at : f ≡ get_or ends k d) where
  pub slot_inside : k < length ends
  slot_inside = omega (arith, inside, ap length is, length-cut 0 ends es)

  f_is : f ≡ begin_at 0 ends (suc k)
  f_is = ends_at ∙ end_is 0 ends k d slot_inside

  pub slot_order : b ≤ f
  slot_order = omega (arith, begins, f_is, begin_rises 0 ends es k are)

  pub slot_within : f ≤ length es
  slot_within = omega (arith, f_is, begin_within 0 ends es (suc k) are)

  pub slot_is : part b f es ≡ get_or v k []
  slot_is = (λ i. part (begins i) (f_is i) es) ∙ sym (cut_get 0 ends es k [] slot_inside) ∙ ap (λ rs. get_or rs k []) is

  pub slot_many : length (part b f es) ≡ f - b
  slot_many = length-take-le (f - b) (drop b es) (omega (arith, length-drop b es, slot_within))

  module _ (ys rest : List C) (many : length ys ≡ length (part b f es)) (rest_is : rest ≡ drop f es) where
    abbrev whole : List C
    whole = take b es ++ (ys ++ rest)

    whole_is : whole ≡ take b es ++ (ys ++ drop f es)
    whole_is = ap (λ xs. take b es ++ (ys ++ xs)) rest_is

    count : length ys ≡ f - b
    count = many ∙ slot_many

    b_within : b ≤ length es
    b_within = omega (arith, slot_order, slot_within)

    pub slot_keeps : AreEnds 0 ends whole
    slot_keeps = ends_length 0 ends es whole (set_length es ys whole b f whole_is b_within slot_order slot_within count) are

    pub slot_set : cut_at 0 ends whole ≡ set v k ys
    slot_set =
        cut_set 0 ends es ys whole k are slot_inside
        (subst (λ n. take n whole ≡ take n es) begins (set_take es ys whole b f whole_is b_within slot_order slot_within count))
        ((λ i. part (sym begins i) (sym f_is i) whole) ∙ set_part es ys whole b f whole_is b_within slot_order slot_within count)
        (subst (λ n. drop n whole ≡ drop n es) f_is (set_drop es ys whole b f whole_is b_within slot_order slot_within count))
        ∙ ap (λ rs. set rs k ys) is

-- fewer records, and one more, as functions meet them
module _ {C : Type 0} (ends : List ℕ) (es : List C) (v : List (List C)) (c b : ℕ) (are : AreEnds 0 ends es) (is : cut_at 0 ends es ≡ v)
    (begins : b ≡ begin_at 0 ends c) where
  pub fewer_keep : AreEnds 0 (take c ends) (take b es)
  fewer_keep = subst (λ n. AreEnds 0 (take c ends) (take n es)) (sym begins) (ends_take 0 ends es c are)

  pub fewer_are : cut_at 0 (take c ends) (take b es) ≡ take c v
  fewer_are = ap (λ n. cut_at 0 (take c ends) (take n es)) begins ∙ cut_take 0 ends es c are ∙ ap (take c) is

pub cut_inside : {C : Type 0} (ends ns : List ℕ) (es : List C) (v : List (List C)) (k : ℕ) → cut_at 0 ends es ≡ v → ns ≡ ends → k < length v → k < length ns
cut_inside ends ns es v k is same inside = omega (arith, inside, ap length is, length-cut 0 ends es, ap length same)

pub cut_reach : {C : Type 0} (ends ns : List ℕ) (es : List C) (v : List (List C)) (k : ℕ) → cut_at 0 ends es ≡ v → ns ≡ ends → k ≤ length v → k ≤ length ns
cut_reach ends ns es v k is same inside = omega (arith, inside, ap length is, length-cut 0 ends es, ap length same)

-- all that a function needs of a record: where it begins and ends, and what other edits in its place make
pub record IsSlot {C : Type 0} (v : List (List C)) (k : ℕ) (ends : List ℕ) (ms : List C) (b f : ℕ) : Type 0 where
  pub order : b ≤ f
  pub within : f ≤ length ms
  pub is : part b f ms ≡ get_or v k []
  pub many : length (part b f ms) ≡ f - b
  pub long : (ys : List C) → length ys ≡ length (part b f ms) → length (take b ms ++ (ys ++ drop (f - b) (drop b ms))) ≡ length ms
  pub keeps : (ys : List C) → length ys ≡ length (part b f ms) → AreEnds 0 ends (take b ms ++ (ys ++ drop (f - b) (drop b ms)))
  pub makes : (ys : List C) → length ys ≡ length (part b f ms) → cut_at 0 ends (take b ms ++ (ys ++ drop (f - b) (drop b ms))) ≡ set v k ys

pub slot : {C : Type 0} (ends ns : List ℕ) (es ms : List C) (v : List (List C)) (k d b f : ℕ) → AreEnds 0 ends es → cut_at 0 ends es ≡ v → k < length v
    → ns ≡ ends → b ≡ begin_at 0 ns k → f ≡ get_or ends k d → ms ≡ es → IsSlot v k ends ms b f
slot {C} ends ns es ms v k d b f are is inside same begins ends_at mirror =
    let at : b ≡ begin_at 0 ends k = begins ∙ ap (λ (ks : List ℕ). begin_at 0 ks k) same in
    let order : b ≤ f = slot_order ends es v k d b f are is inside at ends_at in
    let within : f ≤ length es = slot_within ends es v k d b f are is inside at ends_at in
    let rest : drop (f - b) (drop b es) ≡ drop f es =
    drop-drop (f - b) b es ∙ ap (λ n. drop n es) (let e : b + (f - b) ≡ f = omega (arith, order) in e) in
    subst (λ (xs : List C). IsSlot v k ends xs b f) (sym mirror) (record {
      order = order;
      within = within;
      is = slot_is ends es v k d b f are is inside at ends_at;
      many = slot_many ends es v k d b f are is inside at ends_at;
      long = λ ys many. set_length es ys (take b es ++ (ys ++ drop (f - b) (drop b es))) b f (ap (λ xs. take b es ++ (ys ++ xs)) rest)
          (omega (arith, order, within)) order within (many ∙ slot_many ends es v k d b f are is inside at ends_at);
      keeps = λ ys many. slot_keeps ends es v k d b f are is inside at ends_at ys (drop (f - b) (drop b es)) many rest;
      makes = λ ys many. slot_set ends es v k d b f are is inside at ends_at ys (drop (f - b) (drop b es)) many rest;
    })

-- where a place is no further than the end, so many changes fit in memory
pub place_fits : (place end size : ℕ) → place ≤ end → end * size < 2 ^ 63 → Fits w64 (place * size)
place_fits place end size le fits = let most : place * size ≤ end * size = mul-le-mul_right size le in omega (arith, most, fits)
