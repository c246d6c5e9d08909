-- How far nodes are behind what was told of a tick: those that ended are down, and all others as they were.
use Rattle.std.proofs.Common.{◌≡◌, ℕ, zero, suc, List, [], ◌∷◌, slice_get, slice_set, unwrap_or, refl}
use Rattle.rh_rules.specs.declared.notice.Notice.{Notice}
use Rattle.rh_rules.specs.declared.notice.Notice.TheVariants as notice
use Rattle.rh_state.specs.declared.status.Mode.{Mode}
use Rattle.rh_state.specs.declared.status.Mode.TheVariants as mode

abbrev pub modes_behind : List Mode → List Notice → List Mode
modes_behind modes [] = modes
modes_behind modes (notice.Ended n ∷ notes) = modes_behind (slice_set modes n.0 mode.Down) notes
modes_behind modes (x ∷ notes) = modes_behind modes notes

-- a number that has no node counts as down
abbrev pub mode_in : List Mode → ℕ → Mode
mode_in modes k = unwrap_or (slice_get modes k) mode.Down

pub down_there : (modes : List Mode) (k : ℕ) → mode_in (slice_set modes k mode.Down) k ≡ mode.Down
down_there [] k = refl
down_there (m ∷ modes) zero = refl
down_there (m ∷ modes) (suc k) = down_there modes k
