use Rattle.rh_otp_system.proofs.Moving.{settles}
use Rattle.rh_otp_system.proofs.laws.settles_by_moves.Goals as goal

pub returns : goal.returns
returns c = settles
