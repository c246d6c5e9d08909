use Rattle.rh_otp_colds.proofs.Boot.{colds_go_on}
use Rattle.rh_otp_colds.proofs.laws.cold_starts_go_on.Goals as goal

pub returns : goal.returns
returns c = colds_go_on
