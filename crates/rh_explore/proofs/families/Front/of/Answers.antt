use Rattle.std.proofs.Common.{◌++◌, ◌∷◌, [], List, Option, None, All, length, map, sym, ap, ◌∙◌, subst, arith}
use Rattle.std.proofs.lemmas.List.Elements.{All-nil, All-cons}
use Rattle.rh_state.specs.Stored.{Stored, read}
use Rattle.rh_trace.specs.Validity.{IsValid}
use Rattle.rh_rules.specs.declared.event.Event.{Event}
use Rattle.rh_explore.specs.declared.families.Family.{Family}
use Rattle.rh_explore.specs.Families.{child_by, waiting_in, IsAccepted, IsFamily}
use Rattle.rh_explore.proofs.families.Front.of.Goals as goal

pub returns-clause-waiting : goal.returns-clause-waiting
returns-clause-waiting c = λ pick.
    let family : Family = record { state = c.in_ok-state.state; events = c.push.new.self } in
    ap (waiting_in pick) (c.in_ok-push_back.ensures.items ∙ ap (λ (fs : List Family). fs ++ family ∷ []) c.new-families.ensures.items)
    ∙ ap (λ (es : List (Option Event)). map (child_by pick (read c.in_ok-state.state.value)) es ++ []) (c.in_ok-push.ensures.items ∙ ap (λ (es : List (Option Event)). es ++ None ∷ []) c.new-events.ensures.items)
    ∙ ap (λ (z : Stored). read z ∷ []) c.in_ok-state.ensures.ok

pub returns-clause-families : goal.returns-clause-families
returns-clause-families c =
    let family : Family = record { state = c.in_ok-state.state; events = c.push.new.self } in
    let all = c.in_ok-push_back.ensures.items ∙ ap (λ (fs : List Family). fs ++ family ∷ []) c.new-families.ensures.items in
    let one = c.in_ok-push.ensures.items ∙ ap (λ (es : List (Option Event)). es ++ None ∷ []) c.new-events.ensures.items in
    let P = IsAccepted (read c.in_ok-state.state.value) in
    subst (λ (fs : List Family). All IsFamily fs) (sym all)
    (All-cons IsFamily family []
    (record {
      valid = subst (λ (z : Stored). IsValid (read z)) (sym c.in_ok-state.ensures.ok) c.requires;
      some = omega (arith, ap (λ (es : List (Option Event)). length es) one);
      accepted = subst (λ (es : List (Option Event)). All P es) (sym one) (All-cons P None [] tt (All-nil P));
    })
    (All-nil IsFamily))
