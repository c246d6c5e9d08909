use Rattle.std.proofs.Common.{◌≡◌, ◌+◌, ◌≤◌, ◌++◌, drop}
use Rattle.rh_findings.specs.Parts.{parts_from, parts_at}
use Rattle.rh_findings.proofs.parts.parts_at.Given as goal

abbrev pub invariant-loop-at : goal.invariant-loop-at
invariant-loop-at l = record {
  parts : parts_at l.wanted l.text ≡ l.parts.items ++ parts_from l.wanted l.standing l.line l.at l.depth l.part (drop l.at l.text);
  line : l.line ≤ 1 + l.at;
  depth : l.depth ≤ l.at;
}
