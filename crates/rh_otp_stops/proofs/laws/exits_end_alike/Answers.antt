use Rattle.rh_otp_stops.proofs.Stop.{exits_alike}
use Rattle.rh_otp_stops.proofs.laws.exits_end_alike.Goals as goal

pub returns : goal.returns
returns c = exits_alike
