use Rattle.std.proofs.Common.{◌≡◌, map, drop, filter_map}
use Rattle.rh_base.specs.Tree.{tree_of}
use Rattle.rh_model.specs.Names.{is_among}
use Rattle.rh_cluster.specs.Sections.{app_in}
use Rattle.rh_cluster.proofs.names.repeats_app.Given as goal

abbrev pub invariant-loop-term : goal.invariant-loop-term
invariant-loop-term l =
    is_among (filter_map app_in (map tree_of (drop l.term-index l.earlier))) l.name ≡ is_among (filter_map app_in (map tree_of l.earlier)) l.name
