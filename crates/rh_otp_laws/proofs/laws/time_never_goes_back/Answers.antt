use Rattle.rh_otp_laws.proofs.Ticking.{never_back}
use Rattle.rh_otp_laws.proofs.laws.time_never_goes_back.Goals as goal

pub returns : goal.returns
returns c = never_back
