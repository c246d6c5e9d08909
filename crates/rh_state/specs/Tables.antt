-- Tables over pairs: a row for each node, and in it a cell for each application (ours).
use Rattle.std.specs.Prelude.{ℕ, List, [], slice_get, slice_set, unwrap_or}

abbrev pub row : {A : Type 0} → List (List A) → ℕ → List A
row table n = unwrap_or (slice_get table n) []

abbrev pub cell : {A : Type 0} → List (List A) → ℕ → ℕ → A → A
cell table n a default = unwrap_or (slice_get (row table n) a) default

abbrev pub with_cell : {A : Type 0} → List (List A) → ℕ → ℕ → A → List (List A)
with_cell table n a value = slice_set table n (slice_set (row table n) a value)
