use Rattle.rh_otp_colds.proofs.Last.{last_ends}
use Rattle.rh_otp_colds.proofs.laws.last_boots_end_as_scripts_do.Goals as goal

pub returns : goal.returns
returns c = last_ends
