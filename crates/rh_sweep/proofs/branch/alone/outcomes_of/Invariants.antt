use Rattle.std.proofs.Common.{◌≡◌, map, take}
use Rattle.rh_outcomes.specs.Outcomes.{outcome_of}
use Rattle.rh_sweep.specs.Working.{IsAtBase}
use Rattle.rh_sweep.proofs.branch.alone.outcomes_of.Given as goal

abbrev pub invariant-loop-plan : goal.invariant-loop-plan
invariant-loop-plan l = record {
  at : IsAtBase l.branch l.base;
  outcomes : l.outcomes.items ≡ map (outcome_of l.base.seen) (take l.plan-index l.plans);
}
