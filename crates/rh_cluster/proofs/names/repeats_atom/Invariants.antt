use Rattle.std.proofs.Common.{◌≡◌, map, drop}
use Rattle.rh_base.specs.Tree.{tree_of}
use Rattle.rh_cluster.specs.Shapes.{atoms}
use Rattle.rh_model.specs.Names.{is_among}
use Rattle.rh_cluster.proofs.names.repeats_atom.Given as goal

abbrev pub invariant-loop-term : goal.invariant-loop-term
invariant-loop-term l = is_among (atoms (map tree_of (drop l.term-index l.earlier))) l.name ≡ is_among (atoms (map tree_of l.earlier)) l.name
