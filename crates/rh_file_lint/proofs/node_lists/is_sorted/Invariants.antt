use Rattle.std.proofs.Common.{◌≡◌, drop}
use Rattle.rh_file_lint.specs.NodeLists.{is_sorted}
use Rattle.rh_file_lint.proofs.node_lists.is_sorted.Given as goal

abbrev pub invariant-loop-index : goal.invariant-loop-index
invariant-loop-index l = is_sorted l.cluster (drop l.index l.nodes) ≡ is_sorted l.cluster l.nodes
