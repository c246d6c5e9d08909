use Rattle.rh_otp_moves.proofs.Handover.{moves_alike}
use Rattle.rh_otp_moves.proofs.laws.forbids_that_move_end_alike.Goals as goal

pub returns : goal.returns
returns c = moves_alike
