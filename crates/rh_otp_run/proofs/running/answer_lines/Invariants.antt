use Rattle.std.proofs.Common.{◌≡◌, ◌≤◌, ◌+◌, ◌++◌, ◌||◌, List, ℕ, length, map, false}
use Rattle.rh_devices.specs.Devices.{Passed}
use Rattle.rh_script.specs.Lines.{raw_lines, content}
use Rattle.rh_run.specs.RunText.{bad_line}
use Rattle.rh_manner.specs.MannerText.{asked, said_by}
use Rattle.rh_otp_run.specs.LiveText.{any_refused, said_text}
use Rattle.rh_otp_run.proofs.running.answer_lines.Given as goal

abbrev pub invariant-lines : goal.invariant-lines
invariant-lines g l = record {
  text : (done : List ℕ) × Passed g.K.Sink.takes l.fn.writer.inner l.writer.inner done
      × (said_text l.manner l.fn.sim 1 (said_by l.fn.sim.cluster (map content (raw_lines l.script)))
      ≡ done ++ said_text l.manner l.sim l.number (said_by l.fn.sim.cluster (map content (raw_lines l.rest))));
  fault : bad_line 1 (asked (said_by l.fn.sim.cluster (map content (raw_lines l.script))))
      ≡ bad_line l.number (asked (said_by l.fn.sim.cluster (map content (raw_lines l.rest))));
  told : any_refused l.fn.sim (said_by l.fn.sim.cluster (map content (raw_lines l.script)))
      ≡ (l.refused || any_refused l.sim (said_by l.fn.sim.cluster (map content (raw_lines l.rest))));
  watch : l.writer.failed ≡ false;
  same : l.sim.cluster ≡ l.fn.sim.cluster;
  count : l.number + length l.rest ≤ length l.script + 1;
}

abbrev pub decreases-lines : goal.decreases-lines
decreases-lines g l = length l.rest
