use Rattle.rh_otp_together.proofs.Law.{together_alike}
use Rattle.rh_otp_colds.proofs.Each.{starts_end}
use Rattle.rh_otp_colds.proofs.laws.cold_starts_end_alike.Goals as goal

pub returns : goal.returns
returns c = starts_end together_alike
