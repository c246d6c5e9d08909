use Rattle.rh_otp_explore_laws.proofs.Searched.{hold_in_runs}
use Rattle.rh_otp_explore_laws.proofs.laws.runs_are_searched.Goals as goal

pub returns : goal.returns
returns c = hold_in_runs
