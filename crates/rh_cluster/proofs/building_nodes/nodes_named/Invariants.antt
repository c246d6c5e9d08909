use Rattle.std.proofs.Common.{◌≡◌, map, take}
use Rattle.std.specs.Prelude.{filter_map}
use Rattle.rh_base.specs.Tree.{tree_of}
use Rattle.rh_cluster.specs.Values.{node_named}
use Rattle.rh_cluster.proofs.building_nodes.nodes_named.Given as goal

abbrev pub invariant-loop-term : goal.invariant-loop-term
invariant-loop-term l = l.nodes.items ≡ filter_map (node_named l.names) (map tree_of (take l.term-index l.terms))
