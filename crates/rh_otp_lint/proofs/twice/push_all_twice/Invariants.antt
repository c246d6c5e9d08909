use Rattle.std.proofs.Common.{◌≡◌, ◌++◌, take}
use Rattle.rh_otp_lint.specs.Twice.{all_new_twice}
use Rattle.rh_otp_lint.proofs.twice.push_all_twice.Given as goal

abbrev pub invariant-loop-report : goal.invariant-loop-report
invariant-loop-report l = l.found.items ≡ l.fn.found.items ++ all_new_twice l.cluster l.number l.before (take l.report-index l.after)
