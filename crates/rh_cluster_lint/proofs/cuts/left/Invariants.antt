use Rattle.std.proofs.Common.{◌≡◌, ◌≤◌, ◌++◌, drop}
use Rattle.rh_cluster_lint.specs.Cuts.{left_from, left}
use Rattle.rh_cluster_lint.proofs.cuts.left.Given as goal

abbrev pub invariant-loop-at : goal.invariant-loop-at
invariant-loop-at l = record {
  left : left l.cut l.place l.text ≡ l.kept.items ++ left_from l.cut l.place l.standing l.at l.depth l.begun l.limit (drop l.at l.text);
  depth : l.depth ≤ l.at;
}
