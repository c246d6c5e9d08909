use Rattle.std.proofs.Common.{sym, ap, ◌∙◌, cond, not, Bool, Some, None, inl, inr}
use Rattle.rh_state.specs.Stored.{read}
use Rattle.rh_rules.specs.declared.refusal.Refusal.TheVariants.{NotRunningHere}
use Rattle.rh_refusals.proofs.RefusedByHand.{exit_some, exit_none, runs_there, doesnt_run}
use Rattle.rh_refusals.proofs.refusing.exit_refusal.Goals as goal

pub returns-in-Some : goal.returns-in-Some
returns-in-Some c =
    exit_some (read c.args.state.now) c.args.node c.args.app c.refusal_by_hand.result c.refusal_by_hand.ensures.tests c.args.normal c.in-Some.refusal
    c.in-Some.is

pub returns-in-InRunning : goal.returns-in-InRunning
returns-in-InRunning c =
    ap (λ (b : Bool). cond (not b) (Some NotRunningHere) None)
    (sym (runs_there (read c.args.state.now) c.args.node c.args.app (sym c.in-InRunning.is ∙ c.place_of.ensures)))
    ∙ exit_none (read c.args.state.now) c.args.node c.args.app c.refusal_by_hand.result c.refusal_by_hand.ensures.tests c.args.normal c.in_default.is

pub returns-in-Off : goal.returns-in-Off
returns-in-Off c =
    ap (λ (b : Bool). cond (not b) (Some NotRunningHere) None)
    (sym (doesnt_run (read c.args.state.now) c.args.node c.args.app c.place_of.result c.place_of.ensures
    (λ e. elim c.in-Off.is [ inl f ↦ cc (sym e ∙ f) | inr f ↦ cc (sym e ∙ f) ])))
    ∙ exit_none (read c.args.state.now) c.args.node c.args.app c.refusal_by_hand.result c.refusal_by_hand.ensures.tests c.args.normal c.in_default.is
