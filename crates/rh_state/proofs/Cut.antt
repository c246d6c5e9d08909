-- Tables that are kept in one list, row behind row.
use Rattle.std.proofs.Common.{◌≡◌, ◌<◌, ◌≤◌, ◌+◌, ◌-◌, ◌*◌, ◌∷◌, ◌++◌, ℕ, zero, suc, List, [], Some, refl, sym, ap, ◌∙◌, arith}
use Rattle.std.proofs.Common.{length, get_or, set, take, drop, map, replicate, slice_get, unwrap_or}
use Rattle.std.specs.List.{flat_map}
use Rattle.std.proofs.lemmas.List.{length-take-le, length-drop, take-append-drop, take-replicate, drop-replicate, set-get_or, set_past}
use Rattle.std.proofs.lemmas.List.{get_or-take, get_or-drop, take-set-le, drop-drop, drop-set-lt, drop-set-add, get_or_past, get_or_default, nil_from_length, length-append}
use Rattle.std.proofs.lemmas.Nat.{mul-add-lt}
use Rattle.std.proofs.Math.Nat.{suc-mul, mul_comm, zero-mul, mul-le-mul_right, le_of_mul-le-mul_right}
use Rattle.std.proofs.Math.Seq.{take-set-lt, drop-append_seam, take-append_seam}
use Rattle.std.proofs.lemmas.Option.{unwrap_or-slice_get, slice_get-get_or}
use Rattle.rh_state.specs.Tables.{row, with_cell}
use Rattle.rh_state.specs.Cut.{cut}

pub length-cut : {A : Type 0} (n w : ℕ) (xs : List A) → length (cut n w xs) ≡ n
length-cut zero w xs = refl
length-cut (suc n) w xs = ap suc (length-cut n w (drop w xs))

-- what is left behind the first row
left : {A : Type 0} (n w : ℕ) (xs : List A) → length xs ≡ suc n * w → length (drop w xs) ≡ n * w
left n w xs is = let a = suc-mul n w in let b = length-drop w xs in omega (arith, is, a, b)

enough : {A : Type 0} (n w : ℕ) (xs : List A) → length xs ≡ suc n * w → w ≤ length xs
enough n w xs is = let a = suc-mul n w in omega (arith, is, a)

mul-le : (m n w : ℕ) → m ≤ n → m * w ≤ n * w
mul-le m n w le = mul-le-mul_right w le

none_left : {A : Type 0} (xs : List A) → length xs ≡ 0 → xs ≡ []
none_left xs is = nil_from_length xs is

-- the place of a cell
pub place_within : (n w i a size : ℕ) → size ≡ n * w → i < n → a < w → i * w + a < size
place_within n w i a size is h k = let lt = mul-add-lt i w a n h k in let turned = mul_comm n w in omega (arith, is, lt, turned)

-- a row
pub row-cut : {A : Type 0} (n w i : ℕ) (xs : List A) → i < n → row (cut n w xs) i ≡ take w (drop (i * w) xs)
row-cut zero w i xs h = absurd (omega (arith, h))
row-cut (suc n) w zero xs h = ap (λ (k : ℕ). take w (drop k xs)) (sym (zero-mul w))
row-cut (suc n) w (suc i) xs h =
    row-cut n w i (drop w xs) (omega (arith, h)) ∙ ap (take w) (drop-drop (i * w) w xs)
    ∙ ap (λ (k : ℕ). take w (drop k xs)) (let a = suc-mul i w in omega (arith, a))

pub row-cut_past : {A : Type 0} (n w i : ℕ) (xs : List A) → n ≤ i → row (cut n w xs) i ≡ []
row-cut_past n w i xs le = unwrap_or-slice_get (cut n w xs) i [] ∙ get_or_past (cut n w xs) i [] (let is = length-cut n w xs in omega (arith, is, le))

pub length-row_cut : {A : Type 0} (n w i : ℕ) (xs : List A) → length xs ≡ n * w → i < n → length (row (cut n w xs) i) ≡ w
length-row_cut n w i xs is h =
    ap length (row-cut n w i xs h)
    ∙ length-take-le w (drop (i * w) xs)
    (let len = length-drop (i * w) xs in
    let rest : suc i * w ≤ n * w = mul-le (suc i) n w (omega (arith, h)) in
    let more = suc-mul i w in
    omega (arith, is, len, rest, more))

-- a cell
pub cell-cut : {A : Type 0} (n w i a : ℕ) (xs : List A) (d : A) → i < n → a < w → get_or (row (cut n w xs) i) a d ≡ get_or xs (i * w + a) d
cell-cut n w i a xs d h k = ap (λ ys. get_or ys a d) (row-cut n w i xs h) ∙ get_or-take w (drop (i * w) xs) a d k ∙ get_or-drop (i * w) xs a d

-- a cell that is written
pub set-cut : {A : Type 0} (n w i a : ℕ) (xs : List A) (v : A) → i < n → a < w → cut n w (set xs (i * w + a) v) ≡ with_cell (cut n w xs) i a v
set-cut zero w i a xs v h k = absurd (omega (arith, h))
set-cut (suc n) w zero a xs v h k =
    let place : zero * w + a ≡ a = let z = zero-mul w in omega (arith, z) in
    ap (λ (j : ℕ). cut (suc n) w (set xs j v)) place
    ∙ (λ j. take-set-lt w xs a v k j ∷ cut n w (drop-set-lt w xs a v k j))
set-cut (suc n) w (suc i) a xs v h k =
    let place : suc i * w + a ≡ w + (i * w + a) = let m = suc-mul i w in omega (arith, m) in
    ap (λ (j : ℕ). cut (suc n) w (set xs j v)) place
    ∙ (λ j. take-set-le w xs (w + (i * w + a)) v (omega arith) j ∷ cut n w (drop-set-add w xs (i * w + a) v j))
    ∙ ap (λ ys. take w xs ∷ ys) (set-cut n w i a (drop w xs) v (omega (arith, h)) k)

-- a cell that isn't there
pub with_cell-past_rows : {A : Type 0} (n w i a : ℕ) (xs : List A) (v : A) → n ≤ i → cut n w xs ≡ with_cell (cut n w xs) i a v
with_cell-past_rows n w i a xs v le = sym (set_past (cut n w xs) i (set (row (cut n w xs) i) a v) (let is = length-cut n w xs in omega (arith, is, le)))

pub with_cell-past_cells : {A : Type 0} (n w i a : ℕ) (xs : List A) (v : A) → length xs ≡ n * w → i < n → w ≤ a → cut n w xs ≡ with_cell (cut n w xs) i a v
with_cell-past_cells n w i a xs v is h le =
    sym (ap (set (cut n w xs) i)
    (set_past (row (cut n w xs) i) a v (let size = length-row_cut n w i xs is h in omega (arith, size, le))
    ∙ unwrap_or-slice_get (cut n w xs) i [])
    ∙ set-get_or (cut n w xs) i [])

-- all cells are one
pub cut-replicate : {A : Type 0} (n w : ℕ) (v : A) → cut n w (replicate (n * w) v) ≡ replicate n (replicate w v)
cut-replicate zero w v = refl
cut-replicate (suc n) w v =
    let size = suc-mul n w in
    (λ k. take-replicate w (suc n * w) v (omega (arith, size)) k ∷ cut n w (drop-replicate w (suc n * w) v k))
    ∙ ap (λ (m : ℕ). replicate w v ∷ cut n w (replicate m v)) (omega (arith, size))
    ∙ ap (λ ys. replicate w v ∷ ys) (cut-replicate n w v)

first_row : {A : Type 0} (xs ys : List A) (w : ℕ) → length xs ≡ w → take w (xs ++ ys) ≡ xs
first_row xs ys w is = ap (λ (n : ℕ). take n (xs ++ ys)) (sym is) ∙ take-append_seam xs ys

rest_rows : {A : Type 0} (xs ys : List A) (w : ℕ) → length xs ≡ w → drop w (xs ++ ys) ≡ ys
rest_rows xs ys w is = ap (λ (n : ℕ). drop n (xs ++ ys)) (sym is) ∙ drop-append_seam xs ys

-- rows of one size that stand behind one another
pub cut-flat_map : {A X : Type 0} (f : X → List A) (w : ℕ) (xs : List X) → ((x : X) → length (f x) ≡ w) → cut (length xs) w (flat_map f xs) ≡ map f xs
cut-flat_map f w [] h = refl
cut-flat_map f w (x ∷ xs) h =
    (λ k. first_row (f x) (flat_map f xs) w (h x) k ∷ cut (length xs) w (rest_rows (f x) (flat_map f xs) w (h x) k))
    ∙ ap (λ ys. f x ∷ ys) (cut-flat_map f w xs h)

pub length-flat_map_rows : {A X : Type 0} (f : X → List A) (w : ℕ) (xs : List X) → ((x : X) → length (f x) ≡ w) → length (flat_map f xs) ≡ length xs * w
length-flat_map_rows f w [] h = sym (zero-mul w)
length-flat_map_rows f w (x ∷ xs) h =
    let here = length-append (f x) (flat_map f xs) in
    let own = h x in
    let others = length-flat_map_rows f w xs h in
    let size = suc-mul (length xs) w in
    omega (arith, here, own, others, size)

-- the cells of equal tables
cells_of : {A : Type 0} (n w : ℕ) (xs : List A) → length xs ≡ n * w → flat_map (λ ys. ys) (cut n w xs) ≡ xs
cells_of zero w xs is = sym (none_left xs (is ∙ zero-mul w))
cells_of (suc n) w xs is = ap (λ ys. take w xs ++ ys) (cells_of n w (drop w xs) (left n w xs is)) ∙ take-append-drop w xs

-- tables are equal exactly if they have as many rows, and the same cells
widths : (n w v : ℕ) → suc n * w ≡ suc n * v → w ≡ v
widths n w v e =
    let a = mul_comm w (suc n) in
    let b = mul_comm v (suc n) in
    let le : w ≤ v = le_of_mul-le-mul_right {k = suc n} (omega (arith, a, b, e)) (omega arith) in
    let ge : v ≤ w = le_of_mul-le-mul_right {k = suc n} (omega (arith, a, b, e)) (omega arith) in
    omega (arith, le, ge)

same_width : {A : Type 0} (n w v : ℕ) (xs : List A) → length xs ≡ n * w → length xs ≡ n * v → cut n w xs ≡ cut n v xs
same_width zero w v xs a b = refl
same_width (suc n) w v xs a b = ap (λ (k : ℕ). cut (suc n) k xs) (widths n w v (sym a ∙ b))

pub cut_same : {A : Type 0} (n m w v : ℕ) (xs ys : List A) → length xs ≡ n * w → length ys ≡ m * v → n ≡ m → xs ≡ ys → cut n w xs ≡ cut m v ys
cut_same n m w v xs ys a b rows cells =
    same_width n w v xs a (ap length cells ∙ b ∙ ap (λ (k : ℕ). k * v) (sym rows)) ∙ (λ k. cut (rows k) v (cells k))

pub rows_from_cut : {A : Type 0} (n m w v : ℕ) (xs ys : List A) → cut n w xs ≡ cut m v ys → n ≡ m
rows_from_cut n m w v xs ys e = sym (length-cut n w xs) ∙ ap length e ∙ length-cut m v ys

pub cells_from_cut : {A : Type 0} (n m w v : ℕ) (xs ys : List A) → length xs ≡ n * w → length ys ≡ m * v → cut n w xs ≡ cut m v ys → xs ≡ ys
cells_from_cut n m w v xs ys a b e = sym (cells_of n w xs a) ∙ ap (flat_map (λ zs. zs)) e ∙ cells_of m v ys b

-- a cell of a table that is kept so
pub place_from : {A : Type 0} (n w i a : ℕ) (xs : List A) (t : List (List A)) → cut n w xs ≡ t → length xs ≡ n * w → i < length t → a < length (row t i)
    → (i < n) × (a < w) × (i * w + a < length xs)
place_from n w i a xs t is size h k =
    let l = length-cut n w xs in
    let m = ap length is in
    let within : i < n = omega (arith, h, l, m) in
    let o = length-row_cut n w i xs size within in
    let p = ap (λ u. length (row u i)) is in
    let inside : a < w = omega (arith, k, o, p) in
    (within, inside, place_within n w i a (length xs) size within inside)

pub at-cut : {A : Type 0} (n w i a : ℕ) (xs : List A) (t : List (List A)) (x : A) → cut n w xs ≡ t → length xs ≡ n * w → i < length t
    → a < length (row t i) → x ≡ get_or xs (i * w + a) x → slice_get (row t i) a ≡ Some x
at-cut n w i a xs t x is size h k e =
    let there = place_from n w i a xs t is size h k in
    slice_get-get_or (row t i) a x k
    ∙ ap Some (ap (λ u. get_or (row u i) a x) (sym is) ∙ cell-cut n w i a xs x there.0 there.1 ∙ sym e)

pub value-cut : {A : Type 0} (n w i a : ℕ) (xs : List A) (x v : A) → length xs ≡ n * w → i < n → a < w → x ≡ get_or xs (i * w + a) x
    → x ≡ unwrap_or (slice_get (row (cut n w xs) i) a) v
value-cut n w i a xs x v size h k e =
    e ∙ get_or_default xs (i * w + a) x v (place_within n w i a (length xs) size h k)
    ∙ sym (unwrap_or-slice_get (row (cut n w xs) i) a v ∙ cell-cut n w i a xs v h k)

pub value-past_rows : {A : Type 0} (n w i a : ℕ) (xs : List A) (v : A) → n ≤ i → v ≡ unwrap_or (slice_get (row (cut n w xs) i) a) v
value-past_rows n w i a xs v le = sym (unwrap_or-slice_get (row (cut n w xs) i) a v ∙ ap (λ ys. get_or ys a v) (row-cut_past n w i xs le))

pub value-past_cells : {A : Type 0} (n w i a : ℕ) (xs : List A) (v : A) → length xs ≡ n * w → i < n → w ≤ a
    → v ≡ unwrap_or (slice_get (row (cut n w xs) i) a) v
value-past_cells n w i a xs v is h le =
    sym (unwrap_or-slice_get (row (cut n w xs) i) a v
    ∙ get_or_past (row (cut n w xs) i) a v (let size = length-row_cut n w i xs is h in omega (arith, size, le)))

-- a row of a table that is kept so, which lies in one part of the list
pub row_within : {A : Type 0} (n w i : ℕ) (xs : List A) (t : List (List A)) → cut n w xs ≡ t → length xs ≡ n * w → i < length t → i * w + w ≤ length xs
row_within n w i xs t is size h =
    let l = length-cut n w xs in
    let m = ap length is in
    let rest : suc i * w ≤ n * w = mul-le (suc i) n w (omega (arith, h, l, m)) in
    let more = suc-mul i w in
    omega (arith, size, rest, more)

pub row_part : {A : Type 0} (n w i : ℕ) (xs : List A) (t : List (List A)) → cut n w xs ≡ t → i < length t
    → take (i * w + w - i * w) (drop (i * w) xs) ≡ row t i
row_part n w i xs t is h =
    let l = length-cut n w xs in
    let m = ap length is in
    let size : i * w + w - i * w ≡ w = omega arith in
    ap (λ (k : ℕ). take k (drop (i * w) xs)) size
    ∙ sym (row-cut n w i xs (omega (arith, h, l, m)))
    ∙ ap (λ u. row u i) is
