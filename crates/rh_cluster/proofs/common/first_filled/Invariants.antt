use Rattle.std.proofs.Common.{◌≡◌, map, drop}
use Rattle.rh_base.specs.Tree.{tree_of}
use Rattle.rh_cluster.specs.Values.{first_filled}
use Rattle.rh_cluster.proofs.common.first_filled.Given as goal

abbrev pub invariant-loop-term : goal.invariant-loop-term
invariant-loop-term l = first_filled (map tree_of (drop l.term-index l.terms)) ≡ first_filled (map tree_of l.terms)
