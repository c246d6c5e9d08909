use Rattle.std.proofs.Common.{◌≡◌, ◌≤◌, ◌+◌, ◌++◌, List, length, false}
use Rattle.std.specs.List.{flat_map}
use Rattle.rh_devices.specs.Devices.{Passed}
use Rattle.rh_run.specs.RunText.{bad_line, lines_asked}
use Rattle.rh_verify.specs.Spaces.{lines_of}
use Rattle.rh_verify.specs.Expected.{Check, asked_by, checks}
use Rattle.rh_verify.specs.Blocks.{block_text}
use Rattle.rh_verify.specs.Counts.{tally_of}
use Rattle.rh_verify.proofs.blocks.write_blocks.Given as goal

abbrev pub invariant-lines : goal.invariant-lines
invariant-lines g l =
    let r = g.R.Rehearsal.rules in
    let start = g.R.Rehearsal.view l.fn.rehearsal in
    let sim = g.R.Rehearsal.view l.rehearsal in
    record {
      text : (done : List Check) × Passed g.K.Sink.takes l.fn.writer.inner l.writer.inner (flat_map block_text done)
          × (checks r start l.first (asked_by (r.cluster start) (lines_of l.script))
          ≡ done ++ checks r sim (l.first + l.passed) (asked_by (r.cluster start) (lines_of l.rest)))
          × (l.tally ≡ tally_of done) × (length done ≤ l.passed);
      bad : bad_line 1 (lines_asked (r.cluster start) (lines_of l.script)) ≡ bad_line (l.passed + 1) (lines_asked (r.cluster start) (lines_of l.rest));
      watch : l.writer.failed ≡ false;
      same : r.cluster sim ≡ r.cluster start;
      count : l.passed + length l.rest ≤ length l.script;
    }

abbrev pub decreases-lines : goal.decreases-lines
decreases-lines g l = length l.rest
