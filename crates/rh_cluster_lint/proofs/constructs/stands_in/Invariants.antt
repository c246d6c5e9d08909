use Rattle.std.proofs.Common.{◌≡◌, drop}
use Rattle.rh_cluster_lint.specs.Constructs.{stands_in}
use Rattle.rh_cluster_lint.proofs.constructs.stands_in.Given as goal

abbrev pub invariant-loop-at : goal.invariant-loop-at
invariant-loop-at l = stands_in l.construct l.line ≡ stands_in l.construct (drop l.at l.line)
