use Rattle.std.proofs.Common.{◌≡◌, drop}
use Rattle.rh_otp_dist.specs.Choosing.{told_by}
use Rattle.rh_otp_dist.proofs.weighing.told_by.Given as goal

abbrev pub invariant-loop-one : goal.invariant-loop-one
invariant-loop-one l = told_by (drop l.one-index l.told) l.app l.node ≡ told_by l.told l.app l.node
