use Rattle.std.proofs.Common.{◌≡◌, ◌++◌, map}
use Rattle.std.specs.List.{flat_map, range_with_len}
use Rattle.rh_model.specs.declared.node.Node.{Node}
use Rattle.rh_model.specs.ClusterView.{numbered}
use Rattle.rh_file_lint.specs.declared.finding.FileFinding.TheVariants as finding
use Rattle.rh_file_lint.specs.Findings.{finding_if}
use Rattle.rh_file_lint.specs.SyncLists.{is_incomplete}
use Rattle.rh_file_lint.proofs.at_nodes.tell_incomplete_lists.Given as goal

abbrev pub invariant-loop-number : goal.invariant-loop-number
invariant-loop-number l = l.found.items ≡ l.fn.found.items ++ flat_map (λ (m : Node). finding_if (finding.IncompleteLists l.node m) (is_incomplete l.cluster l.node m)) (map numbered (range_with_len 0 l.number))
