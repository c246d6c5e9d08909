use Rattle.std.proofs.Common.{◌≡◌, drop, length}
use Rattle.rh_cluster.specs.Agreement.{same_groups}
use Rattle.rh_cluster.proofs.agreement.same_groups.Given as goal

abbrev pub invariant-loop-index : goal.invariant-loop-index
invariant-loop-index l = record {
  same : same_groups (drop l.index l.these) (drop l.index l.those) ≡ same_groups l.these l.those;
  lengths : length l.these ≡ length l.those;
}
