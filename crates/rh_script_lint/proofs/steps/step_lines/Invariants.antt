use Rattle.std.proofs.Common.{◌≡◌, ◌+◌, ◌≤◌, ◌++◌, length, map}
use Rattle.rh_script.specs.Lines.{raw_lines, content}
use Rattle.rh_script_lint.specs.Steps.{of_script_steps}
use Rattle.rh_script_lint.proofs.steps.step_lines.Given as goal

abbrev pub invariant-lines : goal.invariant-lines
invariant-lines l = record {
  found : of_script_steps l.all l.fn.sim.seen l.first (map content (raw_lines l.script))
      ≡ l.found.items ++ of_script_steps l.all l.sim.seen (l.first + l.passed) (map content (raw_lines l.rest));
  count : l.passed + length l.rest ≤ length l.script;
}

abbrev pub decreases-lines : goal.decreases-lines
decreases-lines l = length l.rest
