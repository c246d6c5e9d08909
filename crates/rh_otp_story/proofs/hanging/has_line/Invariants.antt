use Rattle.std.proofs.Common.{◌≡◌, length}
use Rattle.rh_otp_story.specs.Hanging.{has_line}
use Rattle.rh_otp_story.proofs.hanging.has_line.Given as goal

abbrev pub invariant-lines : goal.invariant-lines
invariant-lines l = has_line l.text l.line ≡ has_line l.rest l.line

abbrev pub decreases-lines : goal.decreases-lines
decreases-lines l = length l.rest
