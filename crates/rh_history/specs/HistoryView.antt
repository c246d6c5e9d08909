-- What callers see of a history: its cells, and those behind each number of steps (ours).
use Rattle.std.specs.Prelude.{◌≡◌, ◌+◌, ◌<◌, ℕ, List, [], ◌∷◌, ◌++◌, length, take, slice_get, slice_index_or, Some, All}

pub record HistoryView (T : Type 0) : Type 0 where
  -- the cells as they are now
  pub now : List T
  -- the cells behind each number of steps
  pub states : List (List T)
  -- how many of these steps are done
  pub cursor : ℕ

-- what holds of each history
pub record IsHistory {T : Type 0} (h : HistoryView T) : Type 0 where
  -- no more steps are done than there are
  pub within : h.cursor < length h.states
  -- no step has changed how many cells there are
  pub long : All (λ cells. length cells ≡ length h.now) h.states

-- no step is open, or it has changed nothing yet: the cells are those behind the steps that are done
abbrev pub IsClosed : {T : Type 0} → HistoryView T → Type 0
IsClosed h = slice_get h.states h.cursor ≡ Some h.now

-- the history with so many steps done, and no step open
abbrev pub at_step : {T : Type 0} → HistoryView T → ℕ → HistoryView T
at_step h k = record h { now = slice_index_or h.states k []; cursor = k }

-- the history with the open step closed: it is done, and the last one
abbrev pub committed : {T : Type 0} → HistoryView T → HistoryView T
committed h = record {
  now = h.now;
  states = take (h.cursor + 1) h.states ++ h.now ∷ [];
  cursor = h.cursor + 1;
}
