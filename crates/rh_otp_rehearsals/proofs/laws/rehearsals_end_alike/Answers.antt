use Rattle.rh_otp_rehearsals.proofs.Rehearsing.{end_alike}
use Rattle.rh_otp_rehearsals.proofs.laws.rehearsals_end_alike.Goals as goal

pub returns : goal.returns
returns c = end_alike
