use Rattle.std.proofs.Common.{◌≡◌, take}
use Rattle.rh_otp_explore.specs.Due.{dues_in}
use Rattle.rh_otp_explore.proofs.due.dues_in.Given as goal

abbrev pub invariant-loop-report : goal.invariant-loop-report
invariant-loop-report l = l.found.items ≡ dues_in (take l.report-index l.nodes)
