use Rattle.std.proofs.Common.{◌≡◌, ◌++◌, drop}
use Rattle.std.specs.Prelude.{filter}
use Rattle.rh_cluster_lint.specs.Blame.{is_application}
use Rattle.rh_cluster_lint.proofs.blame.applications.Given as goal

abbrev pub invariant-loop-number : goal.invariant-loop-number
invariant-loop-number l = filter (is_application l.text) l.terms ≡ l.found.items ++ filter (is_application l.text) (drop l.number l.terms)
