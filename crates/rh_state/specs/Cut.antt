-- A table that is kept in one list, row behind row (ours).
use Rattle.std.specs.Prelude.{ℕ, zero, suc, List, [], ◌∷◌, take, drop}

-- so many rows of so many cells
abbrev pub cut : {A : Type 0} → ℕ → ℕ → List A → List (List A)
cut zero width cells = []
cut (suc rows) width cells = take width cells ∷ cut rows width (drop width cells)
