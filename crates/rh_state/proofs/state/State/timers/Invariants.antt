use Rattle.std.proofs.Common.{◌≡◌, ◌++◌, ℕ, All, map, length}
use Rattle.rh_wheel.specs.Stored.{listed, timer_count}
use Rattle.rh_state.specs.declared.status.Timer.{Timer}
use Rattle.rh_state.specs.Shape.{IsTimerOf}
use Rattle.rh_state.proofs.TimerNumbers.{meant}
use Rattle.rh_state.proofs.state.State.timers.Given as goal

abbrev pub invariant-loop-due : goal.invariant-loop-due
invariant-loop-due l = record {
  meant : l.timers.items ++ map (meant l.self.cluster) (listed l.wheel) ≡ map (meant l.self.cluster) (listed l.self.wheel);
  numbers : All (λ (entry : ℕ × Timer). IsTimerOf l.self.cluster entry.1) l.timers.items;
  count : timer_count l.wheel ≡ timer_count l.self.wheel;
}

abbrev pub decreases-loop-due : goal.decreases-loop-due
decreases-loop-due l = length (listed l.wheel)
