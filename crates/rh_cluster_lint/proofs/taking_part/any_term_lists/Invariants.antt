use Rattle.std.proofs.Common.{◌≡◌, map, drop}
use Rattle.std.specs.List.{list_any}
use Rattle.rh_base.specs.Tree.{tree_of}
use Rattle.rh_cluster_lint.specs.Differing.{term_lists}
use Rattle.rh_cluster_lint.proofs.taking_part.any_term_lists.Given as goal

abbrev pub invariant-loop-term : goal.invariant-loop-term
invariant-loop-term l = list_any (term_lists l.name) (map tree_of (drop l.term-index l.terms)) ≡ list_any (term_lists l.name) (map tree_of l.terms)
