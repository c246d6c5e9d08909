use Rattle.rh_otp_begins.proofs.Left.{left_alike}
use Rattle.rh_otp_begins.proofs.laws.starts_left_end_alike.Goals as goal

pub returns : goal.returns
returns c = left_alike
