use Rattle.std.proofs.Common.{◌≡◌, ◌≤◌, length, map, filter}
use Rattle.std.specs.List.{range_with_len}
use Rattle.rh_model.specs.declared.node.Node.{Node}
use Rattle.rh_model.specs.ClusterView.{numbered}
use Rattle.rh_file_lint.specs.Cluster.{boots}
use Rattle.rh_file_lint.proofs.boot_lists.booting_count.Given as goal

abbrev pub invariant-loop-number : goal.invariant-loop-number
invariant-loop-number l = record {
  count : l.count ≡ length (filter (λ (n : Node). boots l.cluster n l.app) (map numbered (range_with_len 0 l.number)));
  few : l.count ≤ l.number;
}
