use Rattle.std.proofs.Common.{◌≡◌, drop}
use Rattle.std.specs.List.{find}
use Rattle.rh_cluster_lint.specs.Spans.{span}
use Rattle.rh_cluster_lint.specs.Words.{is_headed}
use Rattle.rh_cluster_lint.proofs.sides.named_among.Given as goal

abbrev pub invariant-loop-number : goal.invariant-loop-number
invariant-loop-number l = find (λ p. is_headed l.name (span l.text p)) l.parts ≡ find (λ p. is_headed l.name (span l.text p)) (drop l.number l.parts)
