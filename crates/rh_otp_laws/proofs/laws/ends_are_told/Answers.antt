use Rattle.rh_otp_laws.proofs.Telling.{ends_told}
use Rattle.rh_otp_laws.proofs.laws.ends_are_told.Goals as goal

pub returns : goal.returns
returns c = ends_told
