use Rattle.std.proofs.Common.{◌≡◌, ◌≤◌, ◌+◌, ◌++◌, List, ℕ, length, map, false}
use Rattle.rh_devices.specs.Devices.{Passed}
use Rattle.rh_script.specs.Lines.{raw_lines, content}
use Rattle.rh_run.specs.RunText.{bad_line, lines_asked}
use Rattle.rh_otp_json.specs.LiveJson.{script_json}
use Rattle.rh_otp_json.proofs.running.answer_lines.Given as goal

abbrev pub invariant-lines : goal.invariant-lines
invariant-lines g l = record {
  text : (done : List ℕ) × Passed g.K.Sink.takes l.fn.writer.inner l.writer.inner done
      × (script_json l.fn.sim.cluster l.fn.sim 1 (map content (raw_lines l.script))
      ≡ done ++ script_json l.fn.sim.cluster l.sim l.number (map content (raw_lines l.rest)));
  fault : bad_line 1 (lines_asked l.fn.sim.cluster (map content (raw_lines l.script))) ≡ bad_line l.number (lines_asked l.fn.sim.cluster (map content (raw_lines l.rest)));
  watch : l.writer.failed ≡ false;
  same : l.sim.cluster ≡ l.fn.sim.cluster;
  count : l.number + length l.rest ≤ length l.script + 1;
}

abbrev pub decreases-lines : goal.decreases-lines
decreases-lines g l = length l.rest
