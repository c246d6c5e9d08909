use Rattle.std.proofs.Common.{◌≡◌, map, drop}
use Rattle.rh_base.specs.Tree.{tree_of}
use Rattle.rh_cluster_lint.specs.Differing.{node_config, first_config}
use Rattle.rh_cluster_lint.proofs.taking_part.node_named.Given as goal

abbrev pub invariant-loop-place : goal.invariant-loop-place
invariant-loop-place l = first_config (node_config l.name) 0 (map tree_of l.terms) ≡ first_config (node_config l.name) l.place (map tree_of (drop l.place l.terms))
