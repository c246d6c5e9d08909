use Rattle.std.proofs.Common.{◌≡◌, ◌++◌, drop}
use Rattle.std.specs.Prelude.{filter}
use Rattle.rh_cluster_lint.specs.Spans.{holds}
use Rattle.rh_cluster_lint.proofs.spans.held.Given as goal

abbrev pub invariant-loop-number : goal.invariant-loop-number
invariant-loop-number l = filter (holds l.outer) l.parts ≡ l.held.items ++ filter (holds l.outer) (drop l.number l.parts)
