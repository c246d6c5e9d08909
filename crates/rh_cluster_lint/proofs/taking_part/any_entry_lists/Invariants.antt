use Rattle.std.proofs.Common.{◌≡◌, map, drop}
use Rattle.std.specs.List.{list_any}
use Rattle.rh_base.specs.Tree.{tree_of}
use Rattle.rh_cluster_lint.specs.Differing.{entry_lists}
use Rattle.rh_cluster_lint.proofs.taking_part.any_entry_lists.Given as goal

abbrev pub invariant-loop-entry : goal.invariant-loop-entry
invariant-loop-entry l = list_any (entry_lists l.name) (map tree_of (drop l.entry-index l.entries)) ≡ list_any (entry_lists l.name) (map tree_of l.entries)
