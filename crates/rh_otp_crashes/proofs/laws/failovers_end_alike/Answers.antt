use Rattle.rh_otp_crashes.proofs.Failover.{failovers_alike}
use Rattle.rh_otp_crashes.proofs.laws.failovers_end_alike.Goals as goal

pub returns : goal.returns
returns c = failovers_alike
