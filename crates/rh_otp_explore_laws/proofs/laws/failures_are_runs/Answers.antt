use Rattle.rh_otp_explore_laws.proofs.Searched.{fail_in_runs}
use Rattle.rh_otp_explore_laws.proofs.laws.failures_are_runs.Goals as goal

pub returns : goal.returns
returns c = fail_in_runs
