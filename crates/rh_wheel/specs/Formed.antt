-- When what is kept is that of timers (ours).
use Rattle.std.specs.Prelude.{◌≡◌, ◌%◌, ℕ, length}
use Rattle.std.specs.Option.{option_map}
use Rattle.rh_arena.specs.Words.{list_count, entry_count, owner_of}
use Rattle.rh_arena.specs.WellFormed.{IsWellFormed}
use Rattle.rh_wheel.specs.declared.wheel.TheConstants.Wheel.{SLOTS}
use Rattle.rh_wheel.specs.Stored.{Stored, due_of}

pub record IsFormed (w : Stored) : Type 0 where
  pub links : IsWellFormed w.links
  pub slots : list_count w.links ≡ SLOTS
  pub timers : entry_count w.links ≡ length w.dues
  -- a timer that is armed is in the slot of its due time, and one that isn't in none
  pub slot : (t : ℕ) → owner_of w.links t ≡ option_map (λ due. due % SLOTS) (due_of w t)
