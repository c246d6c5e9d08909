use Rattle.rh_otp_sweep_laws.proofs.Plans.{plans_run}
use Rattle.rh_otp_sweep_laws.proofs.laws.plans_are_runs.Goals as goal

pub returns : goal.returns
returns c = plans_run
