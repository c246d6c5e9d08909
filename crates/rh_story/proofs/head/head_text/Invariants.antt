use Rattle.std.proofs.Common.{◌≡◌, ◌++◌, length}
use Rattle.rh_script.specs.Lines.{raw_lines}
use Rattle.rh_story.specs.HeadText.{head_text}
use Rattle.rh_story.proofs.head.head_text.Given as goal

abbrev pub invariant-lines : goal.invariant-lines
invariant-lines l = head_text (raw_lines l.bytes) ≡ l.text.items ++ head_text (raw_lines l.rest)

abbrev pub decreases-lines : goal.decreases-lines
decreases-lines l = length l.rest
