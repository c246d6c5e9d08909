use Rattle.std.proofs.Common.{◌≡◌, [], map, take}
use Rattle.rh_base.specs.Tree.{tree_of}
use Rattle.rh_cluster.specs.Faults.{in_turn}
use Rattle.rh_cluster.specs.Shapes.{atoms}
use Rattle.rh_cluster.specs.Sections.{dep_faults}
use Rattle.rh_cluster.proofs.keys.check_deps.Given as goal

abbrev pub invariant-loop-term : goal.invariant-loop-term
invariant-loop-term l = record {
  passed : in_turn (λ earlier t. dep_faults l.names l.platforms l.own (atoms earlier) t) [] (map tree_of (take l.term-index l.terms)) ≡ [];
  earlier : l.earlier ≡ atoms (map tree_of (take l.term-index l.terms));
}
