use Rattle.rh_otp_laws.proofs.Ended.{ended_stays}
use Rattle.rh_otp_laws.proofs.laws.ended_stays_ended.Goals as goal

pub returns : goal.returns
returns c = ended_stays
