use Rattle.std.proofs.Common.{◌≡◌, ◌++◌, ◌∷◌, [], List, map, take, get_or, sym, ap, ◌∙◌}
use Rattle.std.proofs.lemmas.List.{map_more}
use Rattle.rh_plans.specs.declared.plan.Plan.{Plan}
use Rattle.rh_otp_sweep.specs.Outcomes.{LiveOutcomeView, outcome_of}
use Rattle.rh_otp_sweep.proofs.Bare.{outcome_there}
use Rattle.rh_otp_sweep.proofs.trial.outcomes_of.Goals as goal

pub loop-plan-preserved : goal.loop-plan-preserved
loop-plan-preserved c =
    let f = outcome_of c.args.base.now in
    let plans = c.args.plans.now in
    let i = c.loop-plan.plan-index in
    let plan : Plan = c.plan-item.result in
    let before = c.loop-plan.invariant in
    let back = c.in_ok-outcome.ensures.back in
    let is : c.in_ok-outcome.outcome ≡ f (get_or plans i plan) =
    c.in_ok-outcome.ensures.outcome
    ∙ outcome_there c.loop-plan.sim c.args.base.now plan.events.items before.at.same
    ∙ ap f c.plan-item.is in
    record {
      at = record { same = back.same ∙ before.at.same; start = back.start; begins = back.begins };
      outcomes = c.in_ok-push.ensures.items
          ∙ ap (λ (os : List LiveOutcomeView). os ++ c.in_ok-outcome.outcome ∷ []) before.outcomes
          ∙ ap (λ (o : LiveOutcomeView). map f (take i plans) ++ o ∷ []) is
          ∙ sym (map_more f plans i plan c.loop-plan-test.true);
    }
