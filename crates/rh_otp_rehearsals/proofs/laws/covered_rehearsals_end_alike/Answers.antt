use Rattle.rh_otp_rehearsals.proofs.Covering.{covered_alike}
use Rattle.rh_otp_rehearsals.proofs.laws.covered_rehearsals_end_alike.Goals as goal

pub returns : goal.returns
returns c = covered_alike
