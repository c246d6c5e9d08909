use Rattle.std.proofs.Common.{◌++◌, List, map, ap, sym, ◌∙◌, arith}
use Rattle.std.specs.List.{flat_map, range_with_len}
use Rattle.std.proofs.lemmas.List.{flat_map_more}
use Rattle.std.proofs.lemmas.List.FromFn.{map-range_with_len_more}
use Rattle.rh_model.specs.ClusterView.{numbered}
use Rattle.rh_model.specs.declared.node.Node.{Node}
use Rattle.rh_rules.specs.declared.event.Event.{Event}
use Rattle.rh_explore.specs.declared.moves.Move.{Move}
use Rattle.rh_explore_text.specs.OpenEvents.{at_node, each_app}
use Rattle.rh_explore_text.proofs.events.push_each.Goals as goal

pub nodes-preserved : goal.nodes-preserved
nodes-preserved c =
    let i = c.nodes.number in
    let head = c.args.moves.now.items in
    let each = λ (n : Node). each_app c.args.cluster.now (at_node c.args.event n) in
    c.in_ok-push_each_app.ensures
    ∙ ap (λ (one : Event). c.nodes.moves.items ++ each_app c.args.cluster.now one) c.at_node.ensures
    ∙ ap (λ (es : List Move). es ++ each (numbered i)) c.nodes.invariant
    ∙ flat_map_more each head (map numbered (range_with_len 0 i)) (numbered i)
    ∙ ap (λ (all : List Node). head ++ flat_map each all) (sym (map-range_with_len_more numbered 0 i i (omega arith)))
