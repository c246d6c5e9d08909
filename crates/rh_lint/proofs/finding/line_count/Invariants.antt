use Rattle.std.proofs.Common.{◌≡◌, ◌≤◌, ◌+◌, length}
use Rattle.rh_script.specs.Lines.{raw_lines}
use Rattle.rh_lint.proofs.finding.line_count.Given as goal

abbrev pub invariant-lines : goal.invariant-lines
invariant-lines l = record {
  count : length (raw_lines l.text) ≡ l.count + length (raw_lines l.rest);
  within : l.count + length l.rest ≤ length l.text;
}

abbrev pub decreases-lines : goal.decreases-lines
decreases-lines l = length l.rest
