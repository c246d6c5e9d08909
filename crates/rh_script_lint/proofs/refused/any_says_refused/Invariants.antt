use Rattle.std.proofs.Common.{◌≡◌, drop}
use Rattle.std.specs.List.{list_any}
use Rattle.rh_script_lint.specs.Refused.{says_refused}
use Rattle.rh_script_lint.proofs.refused.any_says_refused.Given as goal

abbrev pub invariant-loop-finding : goal.invariant-loop-finding
invariant-loop-finding l = list_any says_refused (drop l.finding-index l.findings) ≡ list_any says_refused l.findings
