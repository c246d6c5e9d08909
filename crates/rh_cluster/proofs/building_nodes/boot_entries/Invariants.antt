use Rattle.std.proofs.Common.{◌≡◌, map, take}
use Rattle.std.specs.Prelude.{filter_map}
use Rattle.rh_base.specs.Tree.{tree_of}
use Rattle.rh_cluster.specs.Values.{boot_entry}
use Rattle.rh_cluster.proofs.building_nodes.boot_entries.Given as goal

abbrev pub invariant-loop-term : goal.invariant-loop-term
invariant-loop-term l = l.boot.items ≡ filter_map (boot_entry l.names) (map tree_of (take l.term-index l.terms))
