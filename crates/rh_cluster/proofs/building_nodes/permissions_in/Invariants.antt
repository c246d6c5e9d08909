use Rattle.std.proofs.Common.{◌≡◌, not, map, take}
use Rattle.std.specs.List.{list_any}
use Rattle.rh_base.specs.Tree.{tree_of}
use Rattle.rh_cluster.specs.Values.{forbids}
use Rattle.rh_cluster.proofs.building_nodes.permissions_in.Given as goal

abbrev pub invariant-loop-index : goal.invariant-loop-index
invariant-loop-index l = l.permissions.items ≡ map (λ name. not (list_any (forbids name) (map tree_of l.entries))) (take l.index l.apps)
