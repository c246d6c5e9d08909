use Rattle.std.proofs.Common.{◌++◌, List, [], ◌∷◌, cond, ap, sym, ◌∙◌, arith}
use Rattle.std.proofs.lemmas.List.FromFn.{filter_of_map_range_with_len_more}
use Rattle.rh_model.specs.ClusterView.{numbered}
use Rattle.rh_model.specs.declared.node.Node.{Node}
use Rattle.rh_state.specs.Stored.{read}
use Rattle.rh_why.specs.Reasons.{is_awaited}
use Rattle.rh_why.proofs.nodes.missing_nodes.Goals as goal

pub loop-number-preserved : goal.loop-number-preserved
loop-number-preserved c =
    let p = is_awaited (read c.args.state.now) c.args.node in
    let i = c.loop-number.number in
    c.in_ok-push_if_awaited.ensures
    ∙ ap (λ (ns : List Node). ns ++ cond (p (numbered i)) (numbered i ∷ []) []) c.loop-number.invariant
    ∙ sym (filter_of_map_range_with_len_more p numbered 0 i i (omega arith))
