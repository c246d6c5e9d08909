use Rattle.std.proofs.Common.{◌≡◌, map, drop, is_some}
use Rattle.std.specs.List.{list_all}
use Rattle.rh_base.specs.Tree.{tree_of}
use Rattle.rh_cluster.specs.Shapes.{as_entry}
use Rattle.rh_cluster.proofs.keys.are_entries.Given as goal

abbrev pub invariant-loop-term : goal.invariant-loop-term
invariant-loop-term l =
    list_all (λ t. is_some (as_entry t)) (map tree_of (drop l.term-index l.terms)) ≡ list_all (λ t. is_some (as_entry t)) (map tree_of l.terms)
