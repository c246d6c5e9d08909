use Rattle.rh_otp_moves.proofs.Permit.{permits_alike}
use Rattle.rh_otp_moves.proofs.laws.permits_that_start_end_alike.Goals as goal

pub returns : goal.returns
returns c = permits_alike
