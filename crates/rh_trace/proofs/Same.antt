-- What is set to the value that it has already stays as it is, also past the end of a list or of a row.
use Rattle.std.proofs.Common.{◌≡◌, ℕ, List, [], slice_get, unwrap_or, set, refl, sym, ap, ◌∙◌}
use Rattle.std.proofs.lemmas.List.{set-get_or}
use Rattle.std.proofs.lemmas.Option.{unwrap_or-slice_get}
use Rattle.rh_state.specs.Tables.{row, cell, with_cell}

pub set_same : {X : Type 0} (xs : List X) (i : ℕ) (v default : X) → unwrap_or (slice_get xs i) default ≡ v → set xs i v ≡ xs
set_same xs i v default is = ap (set xs i) (sym is ∙ unwrap_or-slice_get xs i default) ∙ set-get_or xs i default

pub cell_same : {X : Type 0} (table : List (List X)) (n a : ℕ) (v default : X) → cell table n a default ≡ v → with_cell table n a v ≡ table
cell_same table n a v default is = ap (set table n) (set_same (row table n) a v default is) ∙ set_same table n (row table n) [] refl
