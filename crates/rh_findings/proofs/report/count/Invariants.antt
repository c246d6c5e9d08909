use Rattle.std.proofs.Common.{◌≡◌, ◌≤◌, take}
use Rattle.rh_findings.specs.Report.{count}
use Rattle.rh_findings.proofs.report.count.Given as goal

abbrev pub invariant-loop-place : goal.invariant-loop-place
invariant-loop-place l = record {
  count : l.count ≡ count l.kind (take l.place l.findings);
  within : l.count ≤ l.place;
}
