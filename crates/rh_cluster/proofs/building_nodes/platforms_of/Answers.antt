use Rattle.std.proofs.Common.{◌∙◌, ◌++◌, ◌∷◌, [], ◌||◌, ℕ, List, Bool, map, sym, arith}
use Rattle.rh_base.specs.Tree.{tree_of}
use Rattle.rh_model.specs.Names.{is_among}
use Rattle.rh_cluster.specs.Headers.{every_platform}
use Rattle.rh_cluster.specs.Shapes.{atoms}
use Rattle.rh_base.proofs.Elements.{map_more_at}
use Rattle.rh_cluster.proofs.building_nodes.platforms_of.Goals as goal

pub loop-index-preserved : goal.loop-index-preserved
loop-index-preserved c =
    let f : List ℕ → Bool = λ name. is_among every_platform name || is_among (atoms (map tree_of c.args.terms.now)) name in
    c.in_ok-push.ensures.items ∙ (λ i. c.loop-index.invariant i ++ c.has_platform.ensures i ∷ [])
    ∙ sym (map_more_at f c.platforms-all.result.now c.loop-index.index c.get.result.now (omega arith) c.get.ensures)
