use Rattle.std.proofs.Common.{◌≡◌, false, map}
use Rattle.std.specs.List.{list_any, range_with_len}
use Rattle.rh_model.specs.declared.node.Node.{Node}
use Rattle.rh_model.specs.ClusterView.{numbered}
use Rattle.rh_file_lint.specs.BootLists.{boots_permanent}
use Rattle.rh_file_lint.proofs.boot_lists.is_permanent_at_some_node.Given as goal

abbrev pub invariant-loop-number : goal.invariant-loop-number
invariant-loop-number l = list_any (λ (n : Node). boots_permanent l.cluster n l.app) (map numbered (range_with_len 0 l.number)) ≡ false
