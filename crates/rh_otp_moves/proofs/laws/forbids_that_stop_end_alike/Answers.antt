use Rattle.rh_otp_moves.proofs.Forbid.{forbids_alike}
use Rattle.rh_otp_moves.proofs.laws.forbids_that_stop_end_alike.Goals as goal

pub returns : goal.returns
returns c = forbids_alike
