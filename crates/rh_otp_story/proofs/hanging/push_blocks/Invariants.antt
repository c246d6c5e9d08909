use Rattle.std.proofs.Common.{◌≡◌, ◌++◌, length}
use Rattle.std.specs.List.{flat_map}
use Rattle.rh_script.specs.Lines.{raw_lines}
use Rattle.rh_otp_story.specs.Hanging.{blocked_line}
use Rattle.rh_otp_story.proofs.hanging.push_blocks.Given as goal

abbrev pub invariant-lines : goal.invariant-lines
invariant-lines l = l.fn.text.items ++ flat_map (blocked_line l.name) (raw_lines l.lines) ≡ l.text.items ++ flat_map (blocked_line l.name) (raw_lines l.rest)

abbrev pub decreases-lines : goal.decreases-lines
decreases-lines l = length l.rest
