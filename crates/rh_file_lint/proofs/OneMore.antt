-- Lists of numbers, as nodes or applications, of which a loop has gone over a part.
use Rattle.std.proofs.Common.{◌≡◌, ℕ, ◌+◌, ◌<◌, ◌||◌, Bool, true, false, List, [], ◌∷◌, ◌++◌, map, length, drop, find, Some, None, ◌≤◌, cond, refl, sym, ap, ◌∙◌, arith, append-nil, append_assoc, length-append}
use Rattle.std.specs.List.{list_any, flat_map, filter, range_with_len}
use Rattle.std.proofs.lemmas.List.{at_drop_more, at_drop_all, map-append}
use Rattle.std.proofs.lemmas.List.Folds.{list_any_at, list_any-append}
use Rattle.std.proofs.lemmas.List.FromFn.{map-range_with_len_more, length-map-range_with_len, get_or-map-range_with_len, filter_of_map_range_with_len_more}
use Rattle.std.proofs.lemmas.Grind.{flat_map-append}

-- one that passes
pub some_passes : {A : Type 0} (p : A → Bool) (f : ℕ → A) (n i : ℕ) → i < n → p (f i) ≡ true → true ≡ list_any p (map f (range_with_len 0 n))
some_passes p f n i h here =
    let long = length-map-range_with_len f 0 n in
    sym (list_any_at p (map f (range_with_len 0 n)) i (f i) (omega arith) (ap p (get_or-map-range_with_len f 0 n i i (f i) h (plus i)) ∙ here))
  where
    plus : (i : ℕ) → 0 + i ≡ i
    plus i = omega arith

-- one more that doesn't
pub none_more : {A : Type 0} (p : A → Bool) (f : ℕ → A) (i : ℕ) → list_any p (map f (range_with_len 0 i)) ≡ false → p (f i) ≡ false
    → list_any p (map f (range_with_len 0 (i + 1))) ≡ false
none_more p f i before here =
    ap (list_any p) (map-range_with_len_more f 0 i i (plus i))
    ∙ list_any-append p (map f (range_with_len 0 i)) (f i ∷ [])
    ∙ (λ k. before k || (here k || false))
  where
    plus : (i : ℕ) → 0 + i ≡ i
    plus i = omega arith

-- what one more gives comes last
pub flat_more : {A B : Type 0} (g : A → List B) (f : ℕ → A) (i : ℕ)
    → flat_map g (map f (range_with_len 0 (i + 1))) ≡ flat_map g (map f (range_with_len 0 i)) ++ g (f i)
flat_more g f i =
    ap (flat_map g) (map-range_with_len_more f 0 i i (plus i))
    ∙ flat_map-append g (map f (range_with_len 0 i)) (f i ∷ [])
    ∙ ap (λ ys. flat_map g (map f (range_with_len 0 i)) ++ ys) (append-nil (g (f i)))
  where
    plus : (i : ℕ) → 0 + i ≡ i
    plus i = omega arith

-- what is told of one more is added behind
pub told_more : {A B : Type 0} (g : A → List B) (f : ℕ → A) (i : ℕ) (first before now : List B) → before ≡ first ++ flat_map g (map f (range_with_len 0 i))
    → now ≡ before ++ g (f i) → now ≡ first ++ flat_map g (map f (range_with_len 0 (i + 1)))
told_more g f i first before now so_far more =
    more
    ∙ ap (λ ys. ys ++ g (f i)) so_far
    ∙ append_assoc first (flat_map g (map f (range_with_len 0 i))) (g (f i))
    ∙ ap (λ ys. first ++ ys) (sym (flat_more g f i))

-- how many pass, with one more
pub count_more : {A : Type 0} (p : A → Bool) (f : ℕ → A) (i : ℕ) → length (filter p (map f (range_with_len 0 (i + 1)))) ≡ length (filter p (map f (range_with_len 0 i))) + (cond (p (f i)) 1 0)
count_more p f i =
    ap length (filter_of_map_range_with_len_more p f 0 i i (plus i))
    ∙ length-append (filter p (map f (range_with_len 0 i))) (cond (p (f i)) (f i ∷ []) [])
    ∙ ap (λ k. length (filter p (map f (range_with_len 0 i))) + k) (by (p (f i)))
  where
    plus : (i : ℕ) → 0 + i ≡ i
    plus i = omega arith

    by : (b : Bool) → length (cond b (f i ∷ []) []) ≡ cond b 1 0
    by true = refl
    by false = refl

-- ---- the first that passes: what is left of the list has the same
first_left : {A : Type 0} (p : A → Bool) (f : ℕ → A) (n i : ℕ) → i < n
    → find p (drop i (map f (range_with_len 0 n))) ≡ cond (p (f i)) (Some (f i)) (find p (drop (i + 1) (map f (range_with_len 0 n))))
first_left {A} p f n i h =
    let long = length-map-range_with_len f 0 n in
    at_drop_more (find p) (map f (range_with_len 0 n)) i (f i) (omega arith)
    ∙ ap (λ (x : A). cond (p x) (Some x) (find p (drop (i + 1) (map f (range_with_len 0 n))))) (get_or-map-range_with_len f 0 n i i (f i) h (plus i))
  where
    plus : (i : ℕ) → 0 + i ≡ i
    plus i = omega arith

pub first_here : {A : Type 0} (p : A → Bool) (f : ℕ → A) (n i : ℕ) → i < n
    → find p (drop i (map f (range_with_len 0 n))) ≡ find p (map f (range_with_len 0 n)) → p (f i) ≡ true → Some (f i) ≡ find p (map f (range_with_len 0 n))
first_here p f n i h so_far here =
    sym (first_left p f n i h ∙ ap (λ b. cond b (Some (f i)) (find p (drop (i + 1) (map f (range_with_len 0 n))))) here) ∙ so_far

pub first_later : {A : Type 0} (p : A → Bool) (f : ℕ → A) (n i : ℕ) → i < n
    → find p (drop i (map f (range_with_len 0 n))) ≡ find p (map f (range_with_len 0 n)) → p (f i) ≡ false
    → find p (drop (i + 1) (map f (range_with_len 0 n))) ≡ find p (map f (range_with_len 0 n))
first_later p f n i h so_far here =
    sym (first_left p f n i h ∙ ap (λ b. cond b (Some (f i)) (find p (drop (i + 1) (map f (range_with_len 0 n))))) here) ∙ so_far

pub first_none : {A : Type 0} (p : A → Bool) (f : ℕ → A) (n i : ℕ) → n ≤ i
    → find p (drop i (map f (range_with_len 0 n))) ≡ find p (map f (range_with_len 0 n)) → None ≡ find p (map f (range_with_len 0 n))
first_none p f n i h so_far =
    let long = length-map-range_with_len f 0 n in
    sym (at_drop_all (find p) (map f (range_with_len 0 n)) i (omega arith)) ∙ so_far

-- ---- a list that is made one by one
pub map_more : {A B : Type 0} (g : A → B) (f : ℕ → A) (i : ℕ) (last : B) → last ≡ g (f i)
    → map g (map f (range_with_len 0 i)) ++ last ∷ [] ≡ map g (map f (range_with_len 0 (i + 1)))
map_more {A} {B} g f i last is =
    ap (λ (y : B). map g (map f (range_with_len 0 i)) ++ y ∷ []) is
    ∙ sym (map-append g (map f (range_with_len 0 i)) (f i ∷ []))
    ∙ ap (map g) (sym (map-range_with_len_more f 0 i i (plus i)))
  where
    plus : (i : ℕ) → 0 + i ≡ i
    plus i = omega arith
