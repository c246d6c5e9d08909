use Rattle.std.proofs.Common.{◌≡◌, drop}
use Rattle.rh_otp_system.specs.Doing.{all_seen}
use Rattle.rh_otp_system.proofs.system.System.see_all.Given as goal

abbrev pub invariant-loop-other : goal.invariant-loop-other
invariant-loop-other l = all_seen l.node (drop l.other-index l.others) l.self ≡ all_seen l.node l.others l.fn.self
