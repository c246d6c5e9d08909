use Rattle.std.proofs.Common.{◌≡◌, ◌+◌, List, [], ◌∷◌, ◌++◌, map, take, get_or, ap, sym, ◌∙◌}
use Rattle.std.proofs.lemmas.List.{map_more}
use Rattle.rh_plans.specs.declared.plan.Outcome.{Outcome}
use Rattle.rh_plans.specs.declared.plan.Plan.{Plan}
use Rattle.rh_outcomes.specs.Outcomes.{outcome_of}
use Rattle.rh_sweep.proofs.branch.alone.outcomes_of.Goals as goal

pub loop-plan-preserved : goal.loop-plan-preserved
loop-plan-preserved c =
    let f = outcome_of c.args.base.now.seen in
    let plans = c.args.plans.now in
    let i = c.loop-plan.plan-index in
    let plan = c.plan-item.result in
    let is : c.in_ok-outcome.outcome ≡ f (get_or plans i plan) =
    c.in_ok-outcome.ensures ∙ c.in_ok-try_plan.ensures.outcome ∙ ap f c.plan-item.is in
    record {
      at = c.in_ok-try_plan.ensures.at;
      outcomes = c.in_ok-push.ensures.items
          ∙ ap (λ (os : List Outcome). os ++ c.in_ok-outcome.outcome ∷ []) c.loop-plan.invariant.outcomes
          ∙ ap (λ (o : Outcome). map f (take i plans) ++ o ∷ []) is
          ∙ sym (map_more f plans i plan c.loop-plan-test.true);
    }
