use Rattle.rh_otp_starts.proofs.Start.{permits_alike}
use Rattle.rh_otp_starts.proofs.laws.permits_end_alike.Goals as goal

pub returns : goal.returns
returns c = permits_alike
