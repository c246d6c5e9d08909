use Rattle.std.proofs.Common.{sym, ap, ◌∙◌, cond, not, Bool, Some, None, inl, inr}
use Rattle.rh_state.specs.Stored.{read}
use Rattle.rh_rules.specs.declared.refusal.Refusal.TheVariants.{NeverStarted}
use Rattle.rh_refusals.proofs.RefusedByHand.{stop_some, stop_none, off_unstarted, on_started}
use Rattle.rh_refusals.proofs.refusing.stop_refusal.Goals as goal

pub returns-in-Some : goal.returns-in-Some
returns-in-Some c =
    stop_some (read c.args.state.now) c.args.node c.args.app c.refusal_by_hand.result c.refusal_by_hand.ensures.tests c.in-Some.refusal c.in-Some.is

pub returns-in-Off : goal.returns-in-Off
returns-in-Off c =
    ap (λ (b : Bool). cond (not b) (Some NeverStarted) None)
    (sym (off_unstarted (read c.args.state.now) c.args.node c.args.app (sym c.in-Off.is ∙ c.place_of.ensures)))
    ∙ stop_none (read c.args.state.now) c.args.node c.args.app c.refusal_by_hand.result c.refusal_by_hand.ensures.tests c.in_default.is

pub returns-in-InRunning : goal.returns-in-InRunning
returns-in-InRunning c =
    ap (λ (b : Bool). cond (not b) (Some NeverStarted) None)
    (sym (on_started (read c.args.state.now) c.args.node c.args.app c.place_of.result c.place_of.ensures
    (λ e. elim c.in-InRunning.is [ inl f ↦ cc (sym e ∙ f) | inr f ↦ cc (sym e ∙ f) ])))
    ∙ stop_none (read c.args.state.now) c.args.node c.args.app c.refusal_by_hand.result c.refusal_by_hand.ensures.tests c.in_default.is
