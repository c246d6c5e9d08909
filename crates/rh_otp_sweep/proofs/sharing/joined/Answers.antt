use Rattle.std.proofs.Common.{◌≡◌, ◌++◌, ◌∷◌, [], List, IsOk, is_ok, All, sym, ap, ◌∙◌, subst}
use Rattle.std.specs.List.{flat_map}
use Rattle.std.proofs.lemmas.List.{append_assoc, append-nil}
use Rattle.std.proofs.lemmas.List.Elements.{All-nil, All-push}
use Rattle.rh_otp_sweep.specs.Outcomes.{LiveOutcomeView}
use Rattle.rh_otp_sweep.specs.Working.{part_items}
use Rattle.rh_otp_sweep.proofs.Shares.{Part, first_is, none_left, flat_push}
use Rattle.rh_otp_sweep.proofs.sharing.joined.Goals as goal

pub parts-init : goal.parts-init
parts-init c = ([], sym c.from-rest.ensures.0, All-nil (λ (r : Part). IsOk r), c.new-all.ensures.items)

pub parts-preserved : goal.parts-preserved
parts-preserved c =
    let part : Part = c.in-Some.part in
    let left = c.pop_front.new.self.items in
    let is = first_is c.parts.rest.items left c.pop_front.result part c.pop_front.ensures.items c.in-Some.is in
    let done = c.parts.invariant in
    let more = c.in_ok-outcomes.outcomes.items in
    let was = c.in_ok-outcomes.was in (
      done.0 ++ part ∷ [],
      done.1 ∙ ap (λ (ps : List Part). done.0 ++ ps) is ∙ sym (append_assoc done.0 (part ∷ []) left),
      All-push (λ (r : Part). IsOk r) done.0 part done.2 (ap (λ (r : Part). is_ok r) was),
      c.in_ok-append.ensures.items
          ∙ ap (λ (xs : List LiveOutcomeView). xs ++ more) done.3
          ∙ ap (λ (xs : List LiveOutcomeView). flat_map part_items done.0 ++ xs) (sym (ap part_items was))
          ∙ sym (flat_push part_items done.0 part),
    )

pub returns-clause-whole : goal.returns-clause-whole
returns-clause-whole c =
    let none = none_left c.parts.rest.items c.pop_front.new.self.items c.pop_front.result c.pop_front.ensures.items c.pop_front.ensures.rest c.in_default.is in
    let done = c.parts.invariant in
    let all : c.args.parts.items ≡ done.0 = done.1 ∙ ap (λ (ps : List Part). done.0 ++ ps) none ∙ append-nil done.0 in
    subst (λ (ps : List Part). All IsOk ps) (sym all) done.2

pub returns-clause-all : goal.returns-clause-all
returns-clause-all c =
    let none = none_left c.parts.rest.items c.pop_front.new.self.items c.pop_front.result c.pop_front.ensures.items c.pop_front.ensures.rest c.in_default.is in
    let done = c.parts.invariant in
    let all : c.args.parts.items ≡ done.0 = done.1 ∙ ap (λ (ps : List Part). done.0 ++ ps) none ∙ append-nil done.0 in
    done.3 ∙ ap (flat_map part_items) (sym all)
