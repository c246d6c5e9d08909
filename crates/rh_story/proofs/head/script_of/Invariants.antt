use Rattle.std.proofs.Common.{◌≡◌, length}
use Rattle.rh_script.specs.Lines.{raw_lines, lines_behind}
use Rattle.rh_story.proofs.head.script_of.Given as goal

abbrev pub invariant-lines : goal.invariant-lines
invariant-lines l = lines_behind (raw_lines l.bytes) ≡ lines_behind (raw_lines l.rest)

abbrev pub decreases-lines : goal.decreases-lines
decreases-lines l = length l.rest
