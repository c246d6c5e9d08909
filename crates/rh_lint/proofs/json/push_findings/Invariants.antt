use Rattle.std.proofs.Common.{◌≡◌, ◌++◌, take}
use Rattle.std.specs.List.{flat_map}
use Rattle.rh_lint.specs.LintJson.{finding_json}
use Rattle.rh_lint.proofs.json.push_findings.Given as goal

abbrev pub invariant-loop-finding : goal.invariant-loop-finding
invariant-loop-finding l = l.out.items ≡ l.fn.out.items ++ flat_map finding_json (take l.finding-index l.findings)
