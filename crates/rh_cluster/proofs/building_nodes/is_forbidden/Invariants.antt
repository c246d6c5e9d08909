use Rattle.std.proofs.Common.{◌≡◌, map, drop}
use Rattle.std.specs.List.{list_any}
use Rattle.rh_base.specs.Tree.{tree_of}
use Rattle.rh_cluster.specs.Values.{forbids}
use Rattle.rh_cluster.proofs.building_nodes.is_forbidden.Given as goal

abbrev pub invariant-loop-term : goal.invariant-loop-term
invariant-loop-term l = list_any (forbids l.name) (map tree_of (drop l.term-index l.entries)) ≡ list_any (forbids l.name) (map tree_of l.entries)
