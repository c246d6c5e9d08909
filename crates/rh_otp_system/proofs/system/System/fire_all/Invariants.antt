use Rattle.std.proofs.Common.{◌≡◌}
use Rattle.rh_otp_system.specs.Doing.{all_fired}
use Rattle.rh_otp_system.proofs.system.System.fire_all.Given as goal

abbrev pub invariant-loop-timer : goal.invariant-loop-timer
invariant-loop-timer l = l.self ≡ all_fired l.yielded l.fn.self
