use Rattle.std.proofs.Common.{◌≡◌, ◌++◌, length}
use Rattle.rh_otp_story.specs.Hanging.{new_lines}
use Rattle.rh_otp_story.proofs.hanging.push_new_lines.Given as goal

abbrev pub invariant-lines : goal.invariant-lines
invariant-lines l = l.fn.text.items ++ new_lines l.before l.after ≡ l.text.items ++ new_lines l.before l.rest

abbrev pub decreases-lines : goal.decreases-lines
decreases-lines l = length l.rest
