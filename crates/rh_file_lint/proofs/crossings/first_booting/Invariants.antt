use Rattle.std.proofs.Common.{◌≡◌, map, drop, find}
use Rattle.std.specs.List.{range_with_len}
use Rattle.rh_model.specs.declared.node.Node.{Node}
use Rattle.rh_model.specs.ClusterView.{numbered, node_count}
use Rattle.rh_file_lint.specs.Cluster.{boots_before}
use Rattle.rh_file_lint.proofs.crossings.first_booting.Given as goal

abbrev pub invariant-loop-number : goal.invariant-loop-number
invariant-loop-number l =
    find (λ (n : Node). boots_before l.cluster n l.fn.app l.fn.other) (drop l.number (map numbered (range_with_len 0 (node_count l.cluster))))
    ≡ find (λ (n : Node). boots_before l.cluster n l.fn.app l.fn.other) (map numbered (range_with_len 0 (node_count l.cluster)))
