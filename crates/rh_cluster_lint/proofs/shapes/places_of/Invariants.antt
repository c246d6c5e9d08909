use Rattle.std.proofs.Common.{◌≡◌, ◌++◌, map, drop}
use Rattle.rh_base.specs.Tree.{tree_of}
use Rattle.rh_cluster_lint.specs.Lines.{places_of}
use Rattle.rh_cluster_lint.proofs.shapes.places_of.Given as goal

abbrev pub invariant-loop-place : goal.invariant-loop-place
invariant-loop-place l = places_of l.word 0 (map tree_of l.terms) ≡ l.places.items ++ places_of l.word l.place (map tree_of (drop l.place l.terms))
