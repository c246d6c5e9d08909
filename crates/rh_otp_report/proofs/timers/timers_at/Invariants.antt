use Rattle.std.proofs.Common.{◌≡◌, ◌++◌, drop}
use Rattle.std.specs.List.{filter_map}
use Rattle.rh_otp_report.specs.NodeTimers.{timer_at, timers_at}
use Rattle.rh_otp_report.proofs.timers.timers_at.Given as goal

abbrev pub invariant-loop-timer : goal.invariant-loop-timer
invariant-loop-timer l =
    l.found.items ++ filter_map (timer_at l.live l.node) (drop l.timer-index l.timer-items) ≡ timers_at l.live l.node l.timers
