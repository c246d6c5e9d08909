use Rattle.std.proofs.Common.{Some, ap, sym, ◌∙◌, arith}
use Rattle.std.specs.List.{slice_get}
use Rattle.rh_history.proofs.Overlays.{none_held, own_held, base_held, item_at}
use Rattle.rh_history.proofs.draft.Draft.at.Goals as goal

pub returns-in_err-value : goal.returns-in_err-value
returns-in_err-value g c =
    let d = c.self.inside in
    rw c.from_residual.ensures
    (none_held d.base.now d.own.items c.args.self.now c.self.invariant c.self.view_is c.args.at
    (omega (arith, c.in_err-value.ensures.lookup.3, c.deref.ensures.len, d.own.ok.0)))

pub returns-in-Some : goal.returns-in-Some
returns-in-Some g c =
    let d = c.self.inside in
    own_held d.base.now d.own.items c.args.self.now c.self.invariant c.self.view_is c.args.at c.in-Some.value
    (ap (λ vs. slice_get vs c.args.at) (sym c.deref.ensures.value)
    ∙ sym (item_at c.deref.result.now c.args.at (Some c.in_ok-value.field-0) c.in_ok-value.ensures.lookup)
    ∙ ap Some c.in-Some.is)

pub returns-in-None : goal.returns-in-None
returns-in-None g c =
    let d = c.self.inside in
    item_at d.base.now c.args.at c.get-in-None.result c.get-in-None.ensures.lookup
    ∙ base_held d.base.now d.own.items c.args.self.now c.self.invariant c.self.view_is c.args.at
    (ap (λ vs. slice_get vs c.args.at) (sym c.deref.ensures.value)
    ∙ sym (item_at c.deref.result.now c.args.at (Some c.in_ok-value.field-0) c.in_ok-value.ensures.lookup)
    ∙ ap Some c.in-None.is)
