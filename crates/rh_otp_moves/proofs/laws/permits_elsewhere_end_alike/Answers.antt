use Rattle.rh_otp_moves.proofs.Finding.{elsewhere_alike}
use Rattle.rh_otp_moves.proofs.laws.permits_elsewhere_end_alike.Goals as goal

pub returns : goal.returns
returns c = elsewhere_alike
