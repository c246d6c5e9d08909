use Rattle.std.proofs.Common.{◌≡◌, take, false}
use Rattle.std.specs.List.{list_any}
use Rattle.rh_findings.specs.Scan.{is_marked}
use Rattle.rh_findings.proofs.plain.before_marked.Given as goal

abbrev pub invariant-loop-at : goal.invariant-loop-at
invariant-loop-at l = list_any is_marked (take l.at l.bytes) ≡ false
