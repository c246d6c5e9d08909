-- Cells as a step makes them, before they are put into a history (ours).
use Rattle.std.specs.Prelude.{ℕ, List, [], ◌∷◌, Option, unwrap_or, slice_set}

-- what callers see of a draft
pub record DraftView (T : Type 0) : Type 0 where
  -- the cells of the history
  pub base : List T
  -- the cells as they are in the draft
  pub cells : List T

-- a draft that has changed no cell
abbrev pub draft_of : {T : Type 0} → List T → DraftView T
draft_of cells = record { base = cells; cells = cells }

-- the draft with this value in a cell; the same draft where there is no such cell
abbrev pub with_cell : {T : Type 0} → DraftView T → ℕ → T → DraftView T
with_cell d at value = record d { cells = slice_set d.cells at value }

-- the cells, each with the value that stands for it, where one does
abbrev pub overlaid : {T : Type 0} → List T → List (Option T) → List T
overlaid [] own = []
overlaid (cell ∷ cells) [] = cell ∷ cells
overlaid (cell ∷ cells) (value ∷ own) = unwrap_or value cell ∷ overlaid cells own

-- the cells behind these writes, from the first to the last
abbrev pub written : {T : Type 0} → List T → List (ℕ × T) → List T
written cells [] = cells
written cells (write ∷ writes) = written (slice_set cells write.0 write.1) writes
