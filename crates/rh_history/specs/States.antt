-- The states that the records of a history lead to (ours).
use Rattle.std.specs.Prelude.{◌≤◌, ℕ, List, [], ◌∷◌, ◌++◌, length, take, drop, All}
use Rattle.rh_base.specs.Exchanges.{back, forth}
use Rattle.rh_history.specs.declared.change.Change.{Change}
use Rattle.rh_history.specs.Change.{put, IsAmong}
use Rattle.rh_history.specs.HistoryView.{HistoryView}

-- the states before a state: the first of them is that behind no change
abbrev pub befores : {W C : Type 0} → (W → C → W) → W → List C → List W
befores undo w [] = []
befores undo w (c ∷ cs) = back undo w (c ∷ cs) ∷ befores undo w cs

-- the states behind a state: the last of them is that behind all changes
abbrev pub behinds : {W C : Type 0} → (W → C → W) → W → List C → List W
behinds redo w [] = []
behinds redo w (c ∷ cs) = redo w c ∷ behinds redo (redo w c) cs

-- the cells behind each number of steps, from those behind so many: the records below are taken back, those above made again
unfoldable pub states_of : {T : Type 0} → List T → List (List (Change T)) → ℕ → List (List T)
states_of cells records cursor = befores (back put) cells (take cursor records) ++ cells ∷ behinds (forth put) cells (drop cursor records)

-- what is seen of cells, of the records of the steps, and of the changes of the open step
abbrev pub seen : {T : Type 0} → List T → List (List (Change T)) → List (Change T) → ℕ → HistoryView T
seen cells records pending cursor = record { now = cells; states = states_of (back put cells pending) records cursor; cursor = cursor }

-- so many steps have a record, and each change is of one of the cells
pub record IsKept {T : Type 0} (cells : List T) (records : List (List (Change T))) (pending : List (Change T)) (cursor : ℕ) : Type 0 where
  pub within : cursor ≤ length records
  pub steps : All (All (IsAmong (length cells))) records
  pub open_step : All (IsAmong (length cells)) pending
