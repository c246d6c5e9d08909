-- What is kept of the timers (ours).
use Rattle.std.specs.Prelude.{ℕ, zero, suc, ◌++◌, List, [], Option, None, length, map, replicate, unwrap_or, slice_index_or}
use Rattle.rh_arena.specs.Words.{Words, unlinked}
use Rattle.rh_arena.specs.Lists.{listed as timers_in}
use Rattle.rh_wheel.specs.declared.wheel.TheConstants.Wheel.{SLOTS}
use Rattle.rh_wheel.specs.Firing.{in_firing_order}

pub record Stored : Type 0 where
  -- the slots, each a list of timers
  pub links : Words
  -- when each timer is due, if it is armed
  pub dues : List (Option ℕ)

-- how many timers there are, armed or not
unfoldable pub timer_count : Stored → ℕ
timer_count w = length w.dues

-- when a timer is due, if it is armed
abbrev pub due_of : Stored → ℕ → Option ℕ
due_of w t = slice_index_or w.dues t None

-- the timers of a slot, each as its due time in milliseconds and its number (one that isn't armed is in no slot)
abbrev pub in_slot : Stored → ℕ → List (ℕ × ℕ)
in_slot w k = map (λ t. (unwrap_or (due_of w t) 0, t)) (timers_in w.links k)

-- those of the first slots, one slot behind the other
unfoldable pub in_slots : Stored → ℕ → List (ℕ × ℕ)
in_slots w zero = []
in_slots w (suc k) = in_slots w k ++ in_slot w k

-- the armed timers in the order in which they fire, each as its due time in milliseconds and its number
unfoldable pub listed : Stored → List (ℕ × ℕ)
listed w = in_firing_order (in_slots w SLOTS)

-- so many timers, none of which is armed
abbrev pub unarmed : ℕ → Stored
unarmed timers = record { links = unlinked timers SLOTS; dues = replicate timers None }
