use Rattle.std.proofs.Common.{◌∙◌, ◌++◌, ◌∷◌, [], ℕ, List, Bool, not, map, sym, arith}
use Rattle.std.specs.List.{list_any}
use Rattle.rh_base.specs.Tree.{tree_of}
use Rattle.rh_cluster.specs.Values.{forbids}
use Rattle.rh_base.proofs.Elements.{map_more_at}
use Rattle.rh_cluster.proofs.building_nodes.permissions_in.Goals as goal

pub loop-index-preserved : goal.loop-index-preserved
loop-index-preserved c =
    let f : List ℕ → Bool = λ name. not (list_any (forbids name) (map tree_of c.args.entries.now)) in
    c.in_ok-push.ensures.items ∙ (λ i. c.loop-index.invariant i ++ c.is_permitted.ensures i ∷ [])
    ∙ sym (map_more_at f c.apps-apps.result.now c.loop-index.index c.get.result.now (omega arith) c.get.ensures)
