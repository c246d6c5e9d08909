use Rattle.std.proofs.Common.{◌≡◌, drop}
use Rattle.rh_otp_net.specs.Timers.{earliest, next_due}
use Rattle.rh_otp_net.proofs.timers.Timers.next_due.Given as goal

abbrev pub invariant-loop-timer : goal.invariant-loop-timer
invariant-loop-timer l = earliest l.least (drop l.timer-index l.timer-items) ≡ next_due l.self
