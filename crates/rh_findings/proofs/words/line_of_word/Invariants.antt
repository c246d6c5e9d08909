use Rattle.std.proofs.Common.{◌≡◌, ◌+◌, ◌≤◌, drop}
use Rattle.rh_findings.specs.Words.{line_from, line_of_word}
use Rattle.rh_findings.proofs.words.line_of_word.Given as goal

abbrev pub invariant-loop-at : goal.invariant-loop-at
invariant-loop-at l = record {
  same : line_of_word l.first l.word l.text ≡ line_from l.goes_on l.line l.word (drop l.at l.text);
  line : l.line ≤ l.first + l.at;
}
