use Rattle.std.proofs.Common.{◌≡◌}
use Rattle.rh_otp_system.specs.Outputs.{all_carried_out}
use Rattle.rh_otp_system.proofs.system.System.carry_out_all.Given as goal

abbrev pub invariant-loop-output : goal.invariant-loop-output
invariant-loop-output l = l.self ≡ all_carried_out l.node l.yielded l.fn.self
