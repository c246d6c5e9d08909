use Rattle.std.proofs.Common.{◌≡◌, map, take}
use Rattle.rh_base.specs.Tree.{tree_of}
use Rattle.rh_cluster.specs.Values.{group_in}
use Rattle.rh_cluster.proofs.building_shares.groups_in.Given as goal

abbrev pub invariant-loop-term : goal.invariant-loop-term
invariant-loop-term l = l.groups.items ≡ map (group_in l.names) (map tree_of (take l.term-index l.terms))
