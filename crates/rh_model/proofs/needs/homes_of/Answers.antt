use Rattle.std.proofs.Common.{◌∙◌, ◌++◌, ◌∷◌, [], sym}
use Rattle.std.specs.List.{list_all}
use Rattle.rh_base.proofs.Elements.{map-take_more}
use Rattle.rh_model.specs.Needs.{is_at_hand, has_platforms}
use Rattle.rh_model.proofs.needs.homes_of.Goals as goal

pub nodes-preserved : goal.nodes-preserved
nodes-preserved c =
    let has = c.has_platforms.ensures ∙ (λ i. list_all (is_at_hand (c.platforms.ensures i)) c.args.deps.now) in
    c.in_ok-push.ensures.items ∙ (λ i. c.nodes.invariant i ++ has i ∷ [])
    ∙ sym (map-take_more (has_platforms c.args.deps.now) c.args.nodes.now c.nodes.node-index c.node-item.result c.nodes-test.true c.node-item.is)
