use Rattle.std.proofs.Common.{◌≡◌}
use Rattle.rh_otp_system.specs.Ending.{with_downs}
use Rattle.rh_otp_system.proofs.system.System.send_downs.Given as goal

abbrev pub invariant-loop-number : goal.invariant-loop-number
invariant-loop-number l = l.self ≡ with_downs l.number l.fn.node l.gone l.fn.self
