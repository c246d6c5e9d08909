use Rattle.std.proofs.Common.{◌≡◌, ◌++◌, length}
use Rattle.rh_story.specs.LineText.{answer_lines}
use Rattle.rh_story.proofs.ticks.push_answer.Given as goal

abbrev pub invariant-lines : goal.invariant-lines
invariant-lines l = l.fn.text.items ++ answer_lines l.answer ≡ l.text.items ++ answer_lines l.rest

abbrev pub decreases-lines : goal.decreases-lines
decreases-lines l = length l.rest
