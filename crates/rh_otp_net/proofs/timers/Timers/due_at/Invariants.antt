use Rattle.std.proofs.Common.{◌≡◌, ◌++◌, drop, filter}
use Rattle.rh_otp_net.specs.Timers.{is_due}
use Rattle.rh_otp_net.proofs.timers.Timers.due_at.Given as goal

abbrev pub invariant-loop-timer : goal.invariant-loop-timer
invariant-loop-timer l =
    l.timers.items ++ filter (is_due l.time) (drop l.timer-index l.timer-items) ≡ filter (is_due l.time) l.self
