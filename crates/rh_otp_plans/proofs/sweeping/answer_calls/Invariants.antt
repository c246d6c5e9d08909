use Rattle.std.proofs.Common.{◌≡◌, ◌++◌, List, ℕ, drop, false}
use Rattle.rh_devices.specs.Devices.{Passed}
use Rattle.rh_otp_run.specs.Laws.{answers_text}
use Rattle.rh_otp_sim.specs.Laws.{behind}
use Rattle.rh_otp_plans.proofs.sweeping.answer_calls.Given as goal

abbrev pub invariant-loop-call : goal.invariant-loop-call
invariant-loop-call g l = record {
  sim : behind l.calls l.fn.sim ≡ behind (drop l.call-index l.calls) l.sim;
  text : (done : List ℕ) × Passed g.K.Sink.takes l.fn.writer.inner l.writer.inner done
      × (answers_text l.fn.sim l.calls ≡ done ++ answers_text l.sim (drop l.call-index l.calls));
  watch : l.writer.failed ≡ false;
}
