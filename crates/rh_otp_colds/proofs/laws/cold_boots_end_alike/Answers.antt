use Rattle.rh_otp_together.proofs.Law.{together_alike}
use Rattle.rh_otp_colds.proofs.Each.{boots_end}
use Rattle.rh_otp_colds.proofs.laws.cold_boots_end_alike.Goals as goal

pub returns : goal.returns
returns c = boots_end together_alike
