use Rattle.std.proofs.Common.{◌≡◌, ◌++◌, take}
use Rattle.std.specs.List.{flat_map}
use Rattle.std.specs.String.{string_bytes}
use Rattle.rh_otp_text.specs.Nodes.{timer_line}
use Rattle.rh_otp_text.proofs.nodes.push_timers.Given as goal

abbrev pub invariant-loop-timer : goal.invariant-loop-timer
invariant-loop-timer l = string_bytes l.text ≡ string_bytes l.fn.text ++ flat_map (timer_line l.cluster) (take l.timer-index l.timers)
