use Rattle.std.proofs.Common.{◌++◌, ◌∷◌, [], List, map, ap, sym, ◌∙◌, append_assoc, arith}
use Rattle.std.specs.List.{range_with_len}
use Rattle.std.proofs.lemmas.List.{map_push}
use Rattle.std.proofs.lemmas.List.FromFn.{map-range_with_len_more}
use Rattle.rh_model.specs.ClusterView.{app_numbered}
use Rattle.rh_model.specs.declared.node.App.{App}
use Rattle.rh_rules.specs.declared.event.Event.{Event}
use Rattle.rh_explore.specs.declared.moves.Move.{Move}
use Rattle.rh_explore.specs.declared.moves.Move.TheVariants.{Make}
use Rattle.rh_explore_text.specs.OpenEvents.{move_at}
use Rattle.rh_explore_text.proofs.events.push_each_app.Goals as goal

pub apps-preserved : goal.apps-preserved
apps-preserved c =
    let e = c.args.event in
    let i = c.apps.number in
    let head = c.args.moves.now.items in
    let before = map app_numbered (range_with_len 0 i) in
    c.in_ok-push-2.ensures.items
    ∙ ap (λ (one : Event). c.apps.moves.items ++ Make one ∷ []) c.at_app.ensures
    ∙ ap (λ (es : List Move). es ++ move_at e (app_numbered i) ∷ []) c.apps.invariant
    ∙ append_assoc head (map (move_at e) before) (move_at e (app_numbered i) ∷ [])
    ∙ ap (λ (es : List Move). head ++ es) (sym (map_push (move_at e) before (app_numbered i)))
    ∙ ap (λ (all : List App). head ++ map (move_at e) all) (sym (map-range_with_len_more app_numbered 0 i i (omega arith)))
