use Rattle.std.proofs.Common.{◌≡◌, drop}
use Rattle.rh_otp_lint.specs.Twice.{was_twice}
use Rattle.rh_otp_lint.proofs.twice.was_twice.Given as goal

abbrev pub invariant-loop-report : goal.invariant-loop-report
invariant-loop-report l = was_twice (drop l.report-index l.before) l.app ≡ was_twice l.before l.app
