use Rattle.std.proofs.Common.{◌≡◌, map, drop}
use Rattle.std.specs.List.{list_any}
use Rattle.rh_base.specs.Tree.{tree_of}
use Rattle.rh_cluster_lint.specs.Differing.{is_name}
use Rattle.rh_cluster_lint.proofs.taking_part.any_is_name.Given as goal

abbrev pub invariant-loop-term : goal.invariant-loop-term
invariant-loop-term l = list_any (is_name l.name) (map tree_of (drop l.term-index l.terms)) ≡ list_any (is_name l.name) (map tree_of l.terms)
