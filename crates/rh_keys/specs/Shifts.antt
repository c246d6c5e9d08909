-- What no answer depends on: the clock, how often nodes were started, and how applications were (ours).
use Rattle.std.specs.Prelude.{◌≡◌, ◌≤◌, ◌-◌, ℕ, [], map, All}
use Rattle.rh_state.specs.declared.status.Timer.{Timer}
use Rattle.rh_state.specs.StateView.{StateView}

-- a timer, with how long it has to go
abbrev pub seen_from : ℕ → ℕ × Timer → ℕ × Timer
seen_from now entry = (entry.0 - now, entry.1)

-- a state without its clock, incarnations and start kinds; its timers are counted from now
abbrev pub timeless : StateView → StateView
timeless s = record s { time = 0; incarnations = []; kinds = []; timers = map (seen_from s.time) s.timers }

-- two states are alike where only these tell them apart
abbrev pub Alike : StateView → StateView → Type 0
Alike s t = timeless s ≡ timeless t

-- no timer is due before now
abbrev pub NoneIsOverdue : StateView → Type 0
NoneIsOverdue s = All (λ (entry : ℕ × Timer). s.time ≤ entry.0) s.timers
