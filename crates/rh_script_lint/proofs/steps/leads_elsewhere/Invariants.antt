use Rattle.std.proofs.Common.{◌≡◌, drop}
use Rattle.std.specs.List.{list_any}
use Rattle.rh_script_lint.specs.Steps.{is_another_past}
use Rattle.rh_script_lint.proofs.steps.leads_elsewhere.Given as goal

abbrev pub invariant-loop-finding : goal.invariant-loop-finding
invariant-loop-finding l = list_any is_another_past (drop l.finding-index l.findings) ≡ list_any is_another_past l.findings
