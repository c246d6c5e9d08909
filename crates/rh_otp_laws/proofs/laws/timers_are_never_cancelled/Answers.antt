use Rattle.rh_otp_laws.proofs.Time.{never_cancelled}
use Rattle.rh_otp_laws.proofs.laws.timers_are_never_cancelled.Goals as goal

pub returns : goal.returns
returns c = never_cancelled
