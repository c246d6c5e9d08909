use Rattle.std.proofs.Common.{◌==◌, ◌++◌, ◌∷◌, [], sym, ap, ◌∙◌, List, get_or, take, cond, append-nil}
use Rattle.std.specs.List.{filter}
use Rattle.std.specs.Option.{option_to_list}
use Rattle.std.proofs.lemmas.List.Elements.{All-filter, All-take}
use Rattle.rh_model.specs.declared.node.Node.{Node}
use Rattle.rh_state.specs.StateView.{running_count}
use Rattle.rh_state.specs.Shape.{IsNodeOf}
use Rattle.rh_state.specs.Stored.{read}
use Rattle.rh_place.specs.Sets.{has}
use Rattle.rh_rules.specs.Placing.{picked}
use Rattle.rh_base.proofs.Lists.{both_more}
use Rattle.rh_place.proofs.Picks.{picked_push, picked_All}
use Rattle.rh_place.proofs.choosing.one_of_lightest.Goals as goal
use Rattle.rh_place.proofs.choosing.one_of_lightest.Goals.{then-is_light, else-is_light}

pub nodes-preserved : goal.nodes-preserved
nodes-preserved c =
    let i = c.nodes.node-index in
    let xs : List Node = c.args.group.now in
    let d : Node = record { 0 = 0 } in
    let p = has c.args.set in
    let q = λ (m : Node). running_count (read c.args.state.now) m == c.args.count in
    let before : List Node = filter q (filter p (take i xs)) in
    let x : Node = get_or xs i d in
    let more = both_more p q xs i d c.nodes-test.true in
    elim c.if-is_light.branch [
      | then-is_light u ↦ u.found-is ∙ u.pick_node.ensures
          ∙ ap (λ f. picked c.args.pick (option_to_list f ++ x ∷ [])) c.nodes.invariant
          ∙ sym (picked_push c.args.pick before x)
          ∙ ap (picked c.args.pick) (sym (more ∙ ap (λ b. before ++ cond b (x ∷ []) []) (sym c.is_light.ensures ∙ u.if-is_light.true)))
      | else-is_light u ↦ u.found-is ∙ c.nodes.invariant
          ∙ ap (picked c.args.pick) (sym (more ∙ ap (λ b. before ++ cond b (x ∷ []) []) (sym c.is_light.ensures ∙ u.if-is_light.false) ∙ append-nil before))
    ]

pub returns-clause-number : goal.returns-clause-number
returns-clause-number c =
    let P = IsNodeOf (read c.args.state.now).cluster in
    let p = has c.args.set in
    let q = λ (m : Node). running_count (read c.args.state.now) m == c.args.count in
    let all = All-take P c.nodes.node-index c.args.group.now c.requires in
    rw c.nodes.invariant (picked_All P c.args.pick _ (All-filter q P _ (All-filter p P _ all)))
