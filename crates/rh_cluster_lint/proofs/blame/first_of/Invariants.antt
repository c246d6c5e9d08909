use Rattle.std.proofs.Common.{◌≡◌, ◌+◌, drop}
use Rattle.rh_cluster_lint.specs.Blame.{first_from}
use Rattle.rh_cluster_lint.proofs.blame.first_of.Given as goal

abbrev pub invariant-loop-index : goal.invariant-loop-index
invariant-loop-index l = first_from l.cut l.text l.code 1 l.parts ≡ first_from l.cut l.text l.code (l.index + 1) (drop l.index l.parts)
