use Rattle.std.proofs.Common.{◌≡◌, ◌≤◌, ◌+◌, ◌++◌, List, ℕ, length, map, false}
use Rattle.std.specs.Prelude.{IsUtf8}
use Rattle.rh_devices.specs.Devices.{Passed}
use Rattle.rh_script.specs.Lines.{raw_lines, content}
use Rattle.rh_run.specs.RunText.{bad_line, lines_asked}
use Rattle.rh_story.specs.StoryText.{lines_by}
use Rattle.rh_story.proofs.writing.tell_lines.Given as goal

abbrev pub invariant-lines : goal.invariant-lines
invariant-lines g l =
    let t = g.T.Teller.telling in
    let start = g.T.Teller.view l.fn.sim in
    let sim = g.T.Teller.view l.sim in
    record {
      text : (done : List ℕ) × Passed g.K.Sink.takes l.fn.writer.inner l.writer.inner done
          × (lines_by t start 1 l.lack (raw_lines l.script) ≡ done ++ lines_by t sim l.number l.behind (raw_lines l.rest));
      fault : bad_line 1 (lines_asked (t.cluster start) (map content (raw_lines l.script)))
          ≡ bad_line l.number (lines_asked (t.cluster start) (map content (raw_lines l.rest)));
      watch : l.writer.failed ≡ false;
      same : t.cluster sim ≡ t.cluster start;
      utf8 : IsUtf8 l.behind;
      count : l.number + length l.rest ≤ length l.script + 1;
    }

abbrev pub decreases-lines : goal.decreases-lines
decreases-lines g l = length l.rest
