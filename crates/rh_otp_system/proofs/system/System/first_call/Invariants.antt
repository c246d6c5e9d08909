use Rattle.std.proofs.Common.{◌≡◌, drop}
use Rattle.rh_otp_system.specs.Moves.{first_call_from, first_call}
use Rattle.rh_otp_system.proofs.system.System.first_call.Given as goal

abbrev pub invariant-loop-place : goal.invariant-loop-place
invariant-loop-place l = first_call_from l.place (drop l.place l.self.calls) l.self ≡ first_call l.self
