-- Changes of single cells (ours).
use Rattle.std.specs.Prelude.{ℕ, ◌<◌, List, slice_set, slice_index_or}
use Rattle.rh_history.specs.declared.change.Change.{Change}

-- the cells, one of which holds what a change held
abbrev pub put : {T : Type 0} → List T → Change T → List T
put cells c = slice_set cells c.at c.value

-- the change, which holds what its cell held
abbrev pub had : {T : Type 0} → List T → Change T → Change T
had cells c = record c { value = slice_index_or cells c.at c.value }

-- its cell is one of so many
abbrev pub IsAmong : {T : Type 0} → ℕ → Change T → Type 0
IsAmong count c = c.at < count
