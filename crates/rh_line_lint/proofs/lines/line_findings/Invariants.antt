use Rattle.std.proofs.Common.{◌≡◌, ◌+◌, ◌≤◌, ◌++◌, length, map}
use Rattle.rh_script.specs.Lines.{raw_lines, content}
use Rattle.rh_line_lint.specs.Lines.{of_lines}
use Rattle.rh_line_lint.proofs.lines.line_findings.Given as goal

abbrev pub invariant-lines : goal.invariant-lines
invariant-lines l = record {
  found : of_lines l.cluster l.first (map content (raw_lines l.script))
      ≡ l.found.items ++ of_lines l.cluster (l.first + l.passed) (map content (raw_lines l.rest));
  count : l.passed + length l.rest ≤ length l.script;
}

abbrev pub decreases-lines : goal.decreases-lines
decreases-lines l = length l.rest
