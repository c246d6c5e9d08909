use Rattle.rh_otp_stops.proofs.Stop.{stops_alike}
use Rattle.rh_otp_stops.proofs.laws.stops_end_alike.Goals as goal

pub returns : goal.returns
returns c = stops_alike
