use Rattle.std.proofs.Common.{◌-◌}
use Rattle.rh_wheel.proofs.Walking.{IsLeft}
use Rattle.rh_wheel.proofs.wheel.Wheel.first_due_at.Given as goal

abbrev pub invariant-timers : goal.invariant-timers
invariant-timers l = IsLeft (record { links = l.self-inside.slots; dues = l.self-inside.dues.items }) l.due l.next (l.step-end - l.step)
