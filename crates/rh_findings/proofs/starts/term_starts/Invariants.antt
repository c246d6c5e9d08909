use Rattle.std.proofs.Common.{◌≡◌, ◌+◌, ◌-◌, ◌≤◌, ◌++◌, length, drop}
use Rattle.rh_findings.specs.Starts.{starts_from, term_starts}
use Rattle.rh_findings.proofs.starts.term_starts.Given as goal

abbrev pub invariant-text : goal.invariant-text
invariant-text l = record {
  starts : term_starts l.text ≡ l.starts.items ++ starts_from l.standing l.line l.at (drop l.at l.text);
  line : l.line ≤ 1 + l.at;
  at : l.at ≤ length l.text;
}

abbrev pub decreases-text : goal.decreases-text
decreases-text l = length l.text - l.at
