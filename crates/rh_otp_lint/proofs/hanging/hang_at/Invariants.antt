use Rattle.std.proofs.Common.{◌≡◌, drop}
use Rattle.rh_otp_lint.specs.Hanging.{hang_at}
use Rattle.rh_otp_lint.proofs.hanging.hang_at.Given as goal

abbrev pub invariant-loop-report : goal.invariant-loop-report
invariant-loop-report l = hang_at (drop l.report-index l.reports) l.node ≡ hang_at l.reports l.node
