use Rattle.std.proofs.Common.{◌++◌, ◌∷◌, [], ap, sym, ◌∙◌}
use Rattle.std.proofs.lemmas.List.{append_assoc}
use Rattle.rh_model.specs.ClusterView.{app_numbered, is_permitted}
use Rattle.rh_state.proofs.FirstStates.{map_numbered_more}
use Rattle.rh_state.proofs.state.push_permissions.Goals as goal

pub loop-number-preserved : goal.loop-number-preserved
loop-number-preserved c =
    c.in_ok-push.ensures.items
    ∙ (λ k. c.loop-number.invariant k ++ c.permitted.ensures k ∷ [])
    ∙ append_assoc c.args.permissions.now.items _ _
    ∙ ap (λ xs. c.args.permissions.now.items ++ xs)
    (sym (map_numbered_more (is_permitted c.args.cluster.now c.args.node) app_numbered c.loop-number.number))
