use Rattle.std.proofs.Common.{◌≡◌, ◌++◌, drop}
use Rattle.rh_otp_system.specs.Resting.{sleeping_calls}
use Rattle.rh_otp_system.proofs.system.System.sleeping_calls.Given as goal

abbrev pub invariant-loop-call : goal.invariant-loop-call
invariant-loop-call l = l.found.items ++ sleeping_calls (drop l.call-index l.calls) l.self ≡ sleeping_calls l.calls l.self
