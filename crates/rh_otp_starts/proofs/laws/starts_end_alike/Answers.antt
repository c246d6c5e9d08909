use Rattle.rh_otp_starts.proofs.Start.{starts_alike}
use Rattle.rh_otp_starts.proofs.laws.starts_end_alike.Goals as goal

pub returns : goal.returns
returns c = starts_alike
