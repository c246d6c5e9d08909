use Rattle.std.proofs.Common.{◌≡◌, drop}
use Rattle.std.specs.List.{find}
use Rattle.rh_cluster_lint.specs.Constructs.{stands_in}
use Rattle.rh_cluster_lint.proofs.constructs.construct_among.Given as goal

abbrev pub invariant-loop-number : goal.invariant-loop-number
invariant-loop-number l = find (λ c. stands_in c l.line) l.constructs ≡ find (λ c. stands_in c l.line) (drop l.number l.constructs)
