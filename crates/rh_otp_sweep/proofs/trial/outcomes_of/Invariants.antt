use Rattle.std.proofs.Common.{◌≡◌, map, take}
use Rattle.rh_otp_sweep.specs.Outcomes.{outcome_of}
use Rattle.rh_otp_sweep.specs.Working.{IsAtBase}
use Rattle.rh_otp_sweep.proofs.trial.outcomes_of.Given as goal

abbrev pub invariant-loop-plan : goal.invariant-loop-plan
invariant-loop-plan l = record {
  at : IsAtBase l.sim l.base;
  outcomes : l.outcomes.items ≡ map (outcome_of l.base) (take l.plan-index l.plans);
}
