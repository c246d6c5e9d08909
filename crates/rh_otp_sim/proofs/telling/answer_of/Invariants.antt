use Rattle.std.proofs.Common.{◌≡◌, drop}
use Rattle.rh_otp_sim.specs.Telling.{answer_from, answer_of}
use Rattle.rh_otp_sim.proofs.telling.answer_of.Given as goal

abbrev pub invariant-loop-call : goal.invariant-loop-call
invariant-loop-call l = answer_from l.before l.told (drop l.call-index l.calls) ≡ answer_of l.before l.calls
