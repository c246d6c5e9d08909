-- Timers that are set (ours). None is ever cancelled.
use Rattle.std.specs.Prelude.{ℕ, ◌==◌, ◌&&◌, ◌||◌, not, Bool, List, [], ◌∷◌, filter, Option, Some, None, if◌then◌else◌}
use Rattle.std.specs.Prelude.{nat_lt}
use Rattle.rh_otp_net.specs.declared.timers.Timer.{Timer}

-- Is the first time before the second? At one time what was set in an earlier step comes first.
abbrev pub is_before : ℕ × ℕ → ℕ × ℕ → Bool
is_before x y = nat_lt x.0 y.0 || (x.0 == y.0 && nat_lt x.1 y.1)

-- is the timer due at this time, and of this step?
abbrev pub is_due : ℕ × ℕ → Timer → Bool
is_due time t = t.due == time.0 && t.step == time.1

-- the earlier one of this time and the timer's
abbrev pub earlier : Option (ℕ × ℕ) → Timer → Option (ℕ × ℕ)
earlier None t = Some (t.due, t.step)
earlier (Some least) t = if is_before (t.due, t.step) least then Some (t.due, t.step) else Some least

-- the earliest of this time and the timers'
abbrev pub earliest : Option (ℕ × ℕ) → List Timer → Option (ℕ × ℕ)
earliest least [] = least
earliest least (t ∷ timers) = earliest (earlier least t) timers

-- when the next timer is due, and the step in which it was set
abbrev pub next_due : List Timer → Option (ℕ × ℕ)
next_due timers = earliest None timers

-- without the timers of this time and step
abbrev pub without_due : ℕ × ℕ → List Timer → List Timer
without_due time timers = filter (λ t. not (is_due time t)) timers

-- those of this time and step, if any
abbrev pub due_at : Option (ℕ × ℕ) → List Timer → List Timer
due_at None timers = []
due_at (Some time) timers = filter (is_due time) timers

-- the others
abbrev pub left_at : Option (ℕ × ℕ) → List Timer → List Timer
left_at None timers = timers
left_at (Some time) timers = without_due time timers

-- the timers that are due next, of the earliest step, in the order in which they were set
abbrev pub fired : List Timer → List Timer
fired timers = due_at (next_due timers) timers

-- the timers that are left
abbrev pub left : List Timer → List Timer
left timers = left_at (next_due timers) timers
