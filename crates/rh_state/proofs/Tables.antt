-- A cell that has its old value again, and the value that was written into it.
use Rattle.std.proofs.Common.{◌≡◌, ℕ, List, [], length, get_or, slice_get, unwrap_or, set, ap, ◌∙◌, inl, inr, arith}
use Rattle.std.proofs.lemmas.Bool.{cases_lt}
use Rattle.std.proofs.lemmas.List.{set-set, set-get_or, set_past, get_or-set_same, get_or_past, length-set}
use Rattle.std.proofs.lemmas.Option.{unwrap_or-slice_get}
use Rattle.rh_wheel.proofs.Exchanging.{set-exchanged, value-exchanged}
use Rattle.rh_state.specs.Tables.{row, with_cell}

pub cell_exchanged : {X : Type 0} (table : List (List X)) (n a : ℕ) (v : X)
    → with_cell (with_cell table n a v) n a (unwrap_or (slice_get (row table n) a) v) ≡ table
cell_exchanged table n a v = elim (cases_lt n (length table)) [
  | inl l ↦ (let r = row table n in
      let here : row (set table n (set r a v)) n ≡ set r a v = unwrap_or-slice_get (set table n (set r a v)) n [] ∙ get_or-set_same table n (set r a v) [] l in
      ap (λ x. set (set table n (set r a v)) n (set x a (unwrap_or (slice_get r a) v))) here
      ∙ set-set table n (set r a v) (set (set r a v) a (unwrap_or (slice_get r a) v))
      ∙ ap (set table n) (ap (set (set r a v) a) (unwrap_or-slice_get r a v) ∙ set-exchanged r a v ∙ unwrap_or-slice_get table n [])
      ∙ set-get_or table n [])
  | inr m ↦ (let r = row table n in
      let same = length-set table n (set r a v) in
      set_past (set table n (set r a v)) n (set (row (set table n (set r a v)) n) a (unwrap_or (slice_get r a) v)) (omega (arith, m, same))
      ∙ set_past table n (set r a v) m)
]

pub value_exchanged : {X : Type 0} (xs : List X) (i : ℕ) (v : X) → unwrap_or (slice_get (set xs i v) i) (unwrap_or (slice_get xs i) v) ≡ v
value_exchanged xs i v =
    ap (unwrap_or (slice_get (set xs i v) i)) (unwrap_or-slice_get xs i v)
    ∙ unwrap_or-slice_get (set xs i v) i (get_or xs i v) ∙ value-exchanged xs i v

pub cell_value_exchanged : {X : Type 0} (table : List (List X)) (n a : ℕ) (v : X)
    → unwrap_or (slice_get (row (with_cell table n a v) n) a) (unwrap_or (slice_get (row table n) a) v) ≡ v
cell_value_exchanged table n a v = elim (cases_lt n (length table)) [
  | inl l ↦ (let r = row table n in
      let here : row (set table n (set r a v)) n ≡ set r a v = unwrap_or-slice_get (set table n (set r a v)) n [] ∙ get_or-set_same table n (set r a v) [] l in
      ap (λ x. unwrap_or (slice_get x a) (unwrap_or (slice_get r a) v)) here ∙ value_exchanged r a v)
  | inr m ↦ (let none : row table n ≡ [] = unwrap_or-slice_get table n [] ∙ get_or_past table n [] m in
      ap (λ x. unwrap_or (slice_get (row x n) a) (unwrap_or (slice_get (row table n) a) v)) (set_past table n (set (row table n) a v) m)
      ∙ ap (λ x. unwrap_or (slice_get x a) (unwrap_or (slice_get x a) v)) none)
]
