use Rattle.std.proofs.Common.{◌≡◌, ◌≤◌, ◌+◌, ◌++◌, List, ℕ, length, false}
use Rattle.rh_devices.specs.Devices.{Passed}
use Rattle.rh_script.specs.Lines.{raw_lines}
use Rattle.rh_manner.specs.Stages.{script_from, bad_from}
use Rattle.rh_manner.proofs.stage.take_script.Given as goal

abbrev pub invariant-lines : goal.invariant-lines
invariant-lines g l =
    let sp = g.T.Speaker.speech l.fn.speaker in
    let start = g.T.Speaker.view l.fn.start in
    let here = g.T.Speaker.view l.rehearsal in
    record {
      text : (done : List ℕ) × Passed g.K.Sink.takes l.fn.writer.inner l.writer.inner done
          × ((more : List (List ℕ)) → script_from sp start l.fn.first (raw_lines l.fn.lines ++ more)
          ≡ done ++ script_from sp here l.number (raw_lines l.rest ++ more));
      bad : (more : List (List ℕ)) → bad_from (sp.cluster start) l.fn.first (raw_lines l.fn.lines ++ more)
          ≡ bad_from (sp.cluster start) l.number (raw_lines l.rest ++ more);
      watch : l.writer.failed ≡ false;
      same : sp.cluster here ≡ sp.cluster start;
      count : l.number + length (raw_lines l.rest) ≤ l.fn.first + length (raw_lines l.fn.lines);
    }

abbrev pub decreases-lines : goal.decreases-lines
decreases-lines g l = length l.rest
