use Rattle.std.proofs.Common.{◌≡◌, ◌||◌, map, take}
use Rattle.rh_base.specs.Tree.{tree_of}
use Rattle.rh_model.specs.Names.{is_among}
use Rattle.rh_cluster.specs.Headers.{every_platform}
use Rattle.rh_cluster.specs.Shapes.{atoms}
use Rattle.rh_cluster.proofs.building_nodes.platforms_of.Given as goal

abbrev pub invariant-loop-index : goal.invariant-loop-index
invariant-loop-index l = l.platforms.items ≡ map (λ name. is_among every_platform name || is_among (atoms (map tree_of l.terms)) name) (take l.index l.all)
