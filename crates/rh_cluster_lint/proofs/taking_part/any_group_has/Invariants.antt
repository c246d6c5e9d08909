use Rattle.std.proofs.Common.{◌≡◌, map, drop}
use Rattle.std.specs.List.{list_any}
use Rattle.rh_base.specs.Tree.{tree_of}
use Rattle.rh_cluster_lint.specs.Differing.{group_has}
use Rattle.rh_cluster_lint.proofs.taking_part.any_group_has.Given as goal

abbrev pub invariant-loop-group : goal.invariant-loop-group
invariant-loop-group l = list_any (group_has l.name) (map tree_of (drop l.group-index l.groups)) ≡ list_any (group_has l.name) (map tree_of l.groups)
