use Rattle.std.proofs.Common.{◌≡◌, ◌≤◌, ◌+◌, ◌++◌, List, ℕ, length, map, false}
use Rattle.rh_devices.specs.Devices.{Passed}
use Rattle.rh_json.specs.RunJson.{asked_in}
use Rattle.rh_otp_json.specs.LiveJson.{answer_lines}
use Rattle.rh_otp_sim.specs.Laws.{behind}
use Rattle.rh_script.specs.Lines.{raw_lines, content}
use Rattle.rh_otp_plans.specs.LiveSweepJson.{calls_in}
use Rattle.rh_otp_plans.proofs.json.answer_lines.Given as goal

abbrev pub invariant-lines : goal.invariant-lines
invariant-lines g l = record {
  text : (done : List ℕ) × Passed g.K.Sink.takes l.fn.writer.inner l.writer.inner done
      × (answer_lines l.fn.sim (asked_in l.fn.sim.cluster 1 (map content (raw_lines l.script)))
      ≡ done ++ answer_lines l.sim (asked_in l.fn.sim.cluster l.number (map content (raw_lines l.rest))));
  sim : behind (calls_in (asked_in l.fn.sim.cluster 1 (map content (raw_lines l.script)))) l.fn.sim
      ≡ behind (calls_in (asked_in l.fn.sim.cluster l.number (map content (raw_lines l.rest)))) l.sim;
  watch : l.writer.failed ≡ false;
  same : l.sim.cluster ≡ l.fn.sim.cluster;
  count : l.number + length l.rest ≤ length l.script + 1;
}

abbrev pub decreases-lines : goal.decreases-lines
decreases-lines g l = length l.rest
