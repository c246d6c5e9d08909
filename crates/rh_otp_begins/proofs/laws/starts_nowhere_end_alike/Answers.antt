use Rattle.rh_otp_begins.proofs.Nowhere.{nowhere_alike}
use Rattle.rh_otp_begins.proofs.laws.starts_nowhere_end_alike.Goals as goal

pub returns : goal.returns
returns c = nowhere_alike
