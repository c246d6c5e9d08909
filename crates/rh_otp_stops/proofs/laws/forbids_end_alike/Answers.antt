use Rattle.rh_otp_stops.proofs.Stop.{forbids_alike}
use Rattle.rh_otp_stops.proofs.laws.forbids_end_alike.Goals as goal

pub returns : goal.returns
returns c = forbids_alike
