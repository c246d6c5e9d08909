use Rattle.std.proofs.Common.{◌≡◌, ◌==◌, drop, find}
use Rattle.rh_otp_system.specs.declared.calls.Call.{Call}
use Rattle.rh_otp_sim.proofs.telling.answered_line.Given as goal

abbrev pub invariant-loop-call : goal.invariant-loop-call
invariant-loop-call l =
    find (λ (call : Call). call.number == l.number) (drop l.call-index l.calls) ≡ find (λ (call : Call). call.number == l.number) l.calls
