use Rattle.rh_otp_laws.proofs.Hanging.{settled_stays_so}
use Rattle.rh_otp_laws.proofs.laws.settled_stays.Goals as goal

pub returns : goal.returns
returns c = settled_stays_so
