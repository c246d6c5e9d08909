use Rattle.std.proofs.Common.{◌≡◌, ◌++◌, drop, not}
use Rattle.std.specs.Prelude.{filter}
use Rattle.rh_cluster_lint.specs.Blame.{is_application}
use Rattle.rh_cluster_lint.proofs.blame.others.Given as goal

abbrev pub invariant-loop-number : goal.invariant-loop-number
invariant-loop-number l = filter (λ p. not (is_application l.text p)) l.terms ≡ l.found.items ++ filter (λ p. not (is_application l.text p)) (drop l.number l.terms)
