use Rattle.std.proofs.Common.{◌≡◌, ◌++◌, take}
use Rattle.rh_otp_lint.specs.Hanging.{new_hangs}
use Rattle.rh_otp_lint.proofs.hanging.push_hangs.Given as goal

abbrev pub invariant-loop-report : goal.invariant-loop-report
invariant-loop-report l = l.found.items ≡ l.fn.found.items ++ new_hangs l.cluster l.number l.before (take l.report-index l.after)
