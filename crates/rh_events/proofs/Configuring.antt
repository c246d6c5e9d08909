-- A row that is written over, cell by cell, from its start.
use Rattle.std.proofs.Common.{◌≡◌, ◌<◌, ◌+◌, ℕ, zero, suc, Bool, refl, sym, ap, ◌∙◌, arith}
use Rattle.std.proofs.Common.{List, [], ◌∷◌, ◌++◌, length, map, All, slice_set}
use Rattle.std.specs.List.{range_with_len}
use Rattle.std.proofs.lemmas.List.{length-map}
use Rattle.std.proofs.lemmas.List.FromFn.{length-range_with_len}
use Rattle.rh_model.specs.ClusterView.{ClusterView, app_count, app_numbered, is_permitted}
use Rattle.rh_model.specs.declared.node.Node.{Node}
use Rattle.rh_state.specs.First.{configured}
use Rattle.rh_state.specs.Numbers.{apps_of}
use Rattle.rh_state.specs.Shape.{IsShaped, IsNodeOf}
use Rattle.rh_state.specs.StateView.{StateView}
use Rattle.rh_state.specs.Setters.{with_allowed}
use Rattle.rh_state.specs.Tables.{row, with_cell}
use Rattle.rh_state.proofs.FirstStates.{map_numbered_more}
use Rattle.rh_rules.specs.NodesEnd.{with_configured}
use Rattle.rh_events.proofs.Emptying.{set_same}

-- a list, and behind it what is left of another that it was written over
abbrev pub over : {A : Type 0} → List A → List A → List A
over [] ys = ys
over (x ∷ xs) [] = x ∷ xs
over (x ∷ xs) (y ∷ ys) = x ∷ over xs ys

pub over_more : {A : Type 0} (xs ys : List A) (v : A) → length xs < length ys → slice_set (over xs ys) (length xs) v ≡ over (xs ++ v ∷ []) ys
over_more [] [] v h = absurd (omega arith)
over_more [] (y ∷ ys) v h = refl
over_more (x ∷ xs) [] v h = absurd (omega arith)
over_more (x ∷ xs) (y ∷ ys) v h = ap (λ zs. x ∷ zs) (over_more xs ys v (omega arith))

pub over_all : {A : Type 0} (xs ys : List A) → length xs ≡ length ys → over xs ys ≡ xs
over_all [] [] h = refl
over_all [] (y ∷ ys) h = absurd (omega (arith, h))
over_all (x ∷ xs) [] h = refl
over_all (x ∷ xs) (y ∷ ys) h = ap (λ zs. x ∷ zs) (over_all xs ys (omega (arith, h)))

-- a cell of a row that was just written
pub cell_of_set : {A : Type 0} (table : List (List A)) (n : ℕ) (xs : List A) (i : ℕ) (v : A)
    → with_cell (slice_set table n xs) n i v ≡ slice_set table n (slice_set xs i v)
cell_of_set [] n xs i v = refl
cell_of_set (ys ∷ table) zero xs i v = refl
cell_of_set (ys ∷ table) (suc n) xs i v = ap (λ zs. ys ∷ zs) (cell_of_set table n xs i v)

row_has : {A : Type 0} (P : List A → Type 0) (table : List (List A)) (n : ℕ) → All P table → n < length table → P (row table n)
row_has P [] n all h = absurd (omega arith)
row_has P (xs ∷ table) zero all h = all 0 xs (omega arith)
row_has P (xs ∷ table) (suc n) all h = row_has P table n (λ k d l. all (suc k) d (omega arith)) (omega arith)

-- the permissions of the first i applications
abbrev pub first_permissions : ClusterView → Node → ℕ → List Bool
first_permissions c n i = map (is_permitted c n) (map app_numbered (range_with_len 0 i))

-- the first i are as configured
abbrev pub with_first : StateView → Node → ℕ → StateView
with_first s n i = record s { allowed = slice_set s.allowed n.0 (over (first_permissions s.cluster n i) (row s.allowed n.0)) }

-- a node whose row is as configured is as configured
pub already_configured : (s : StateView) (n : Node) → row s.allowed n.0 ≡ configured s.cluster n → s ≡ with_configured s n
already_configured s n is = λ i. record s { allowed = (sym (set_same s.allowed n.0 []) ∙ ap (slice_set s.allowed n.0) is) i }

pub none_written : (s : StateView) (n : Node) → s ≡ with_first s n 0
none_written s n = λ i. record s { allowed = sym (set_same s.allowed n.0 []) i }

length-first : (c : ClusterView) (n : Node) (i : ℕ) → length (first_permissions c n i) ≡ i
length-first c n i = length-map (map app_numbered (range_with_len 0 i)) (is_permitted c n) ∙ length-map (range_with_len 0 i) app_numbered
    ∙ length-range_with_len 0 i

module _ (s : StateView) (n : Node) (shape : IsShaped s) (number : IsNodeOf s.cluster n) where
  row_length : length (row s.allowed n.0) ≡ app_count s.cluster
  row_length = row_has (λ cells. length cells ≡ app_count s.cluster) s.allowed n.0 shape.allowed_rows (let e = shape.allowed in omega (arith, e, number))

  pub one_written : (i : ℕ) → i < app_count s.cluster → with_allowed (with_first s n i) n (app_numbered i) (is_permitted s.cluster n (app_numbered i))
      ≡ with_first s n (i + 1)
  one_written i lt =
      let old : List Bool = row s.allowed n.0 in
      let before : List Bool = first_permissions s.cluster n i in
      let v : Bool = is_permitted s.cluster n (app_numbered i) in
      let e = length-first s.cluster n i in
      let l : length before < length old = (let r = row_length in omega (arith, e, r, lt)) in
      ap (λ (table : List (List Bool)). record s { allowed = table })
      (cell_of_set s.allowed n.0 (over before old) i v
      ∙ ap (slice_set s.allowed n.0)
      (ap (λ (k : ℕ). slice_set (over before old) k v) (sym e)
      ∙ over_more before old v l
      ∙ ap (λ xs. over xs old) (sym (map_numbered_more (is_permitted s.cluster n) app_numbered i))))

  pub all_written : with_first s n (app_count s.cluster) ≡ with_configured s n
  unfolding configured apps_of
  all_written =
      ap (λ xs. record s { allowed = slice_set s.allowed n.0 xs })
      (over_all (first_permissions s.cluster n (app_count s.cluster)) (row s.allowed n.0) (length-first s.cluster n (app_count s.cluster) ∙ sym row_length))
