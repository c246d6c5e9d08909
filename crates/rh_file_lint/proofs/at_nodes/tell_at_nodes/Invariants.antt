use Rattle.std.proofs.Common.{◌≡◌, ◌++◌, map}
use Rattle.std.specs.List.{flat_map, range_with_len}
use Rattle.rh_model.specs.ClusterView.{numbered}
use Rattle.rh_file_lint.specs.Working.{found_at_node}
use Rattle.rh_file_lint.proofs.at_nodes.tell_at_nodes.Given as goal

abbrev pub invariant-loop-number : goal.invariant-loop-number
invariant-loop-number l = l.found.items ≡ l.fn.found.items ++ flat_map (found_at_node l.cluster l.kind) (map numbered (range_with_len 0 l.number))
