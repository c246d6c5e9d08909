use Rattle.std.proofs.Common.{◌≡◌, ◌+◌, ◌≤◌, ◌++◌, length, map}
use Rattle.rh_script.specs.Lines.{raw_lines, content}
use Rattle.rh_otp_lint.specs.LiveSteps.{of_live_steps}
use Rattle.rh_otp_lint.proofs.steps.live_steps.Given as goal

abbrev pub invariant-lines : goal.invariant-lines
invariant-lines l = record {
  found : of_live_steps l.fn.sim l.first (map content (raw_lines l.script))
      ≡ l.found.items ++ of_live_steps l.sim (l.first + l.passed) (map content (raw_lines l.rest));
  count : l.passed + length l.rest ≤ length l.script;
}

abbrev pub decreases-lines : goal.decreases-lines
decreases-lines l = length l.rest
