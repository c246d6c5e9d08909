use Rattle.std.proofs.Common.{◌≡◌, ◌++◌, List, ℕ, drop, false}
use Rattle.rh_devices.specs.Devices.{Passed}
use Rattle.rh_trail.specs.Lone.{sim_after}
use Rattle.rh_run.specs.RunText.{answers_text}
use Rattle.rh_run.proofs.sweeping.answer_calls.Given as goal

abbrev pub invariant-loop-call : goal.invariant-loop-call
invariant-loop-call g l = record {
  sim : sim_after l.fn.sim.seen l.calls ≡ sim_after l.sim.seen (drop l.call-index l.calls);
  text : (done : List ℕ) × Passed g.K.Sink.takes l.fn.writer.inner l.writer.inner done
      × (answers_text l.fn.sim.seen.cluster l.fn.sim.seen l.calls ≡ done ++ answers_text l.fn.sim.seen.cluster l.sim.seen (drop l.call-index l.calls));
  watch : l.writer.failed ≡ false;
  same : l.sim.seen.cluster ≡ l.fn.sim.seen.cluster;
}
