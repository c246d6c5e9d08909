use Rattle.std.proofs.Common.{◌≡◌, ◌++◌, map, take}
use Rattle.rh_otp_explore.specs.Due.{due_of}
use Rattle.rh_otp_explore.proofs.due.push_dues.Given as goal

abbrev pub invariant-loop-timer : goal.invariant-loop-timer
invariant-loop-timer l = l.found.items ≡ l.fn.found.items ++ map due_of (take l.timer-index l.timer-items)
