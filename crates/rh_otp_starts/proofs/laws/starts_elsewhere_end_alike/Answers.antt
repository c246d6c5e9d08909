use Rattle.rh_otp_starts.proofs.Elsewhere.{elsewhere_alike}
use Rattle.rh_otp_starts.proofs.laws.starts_elsewhere_end_alike.Goals as goal

pub returns : goal.returns
returns c = elsewhere_alike
