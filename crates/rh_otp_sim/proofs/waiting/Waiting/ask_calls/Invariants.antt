use Rattle.std.proofs.Common.{◌≡◌, drop}
use Rattle.rh_otp_sim.specs.Waiting.{calls_asked}
use Rattle.rh_otp_sim.proofs.waiting.Waiting.ask_calls.Given as goal

abbrev pub invariant-loop-call : goal.invariant-loop-call
invariant-loop-call l =
    calls_asked l.system l.events l.before (drop l.call-index l.calls) l.self ≡ calls_asked l.system l.events l.before l.calls l.fn.self
