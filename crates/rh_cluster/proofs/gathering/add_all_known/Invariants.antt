use Rattle.std.proofs.Common.{◌≡◌, map, take, fold}
use Rattle.rh_base.specs.Tree.{tree_of}
use Rattle.rh_cluster.specs.Shapes.{atoms}
use Rattle.rh_cluster.specs.Values.{with_name}
use Rattle.rh_cluster.proofs.gathering.add_all_known.Given as goal

abbrev pub invariant-loop-term : goal.invariant-loop-term
invariant-loop-term l = l.names ≡ fold with_name l.initial.names (atoms (map tree_of (take l.term-index l.terms)))
