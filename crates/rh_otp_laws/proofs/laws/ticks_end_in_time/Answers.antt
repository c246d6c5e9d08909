use Rattle.rh_otp_laws.proofs.Ticking.{ticks_in_time}
use Rattle.rh_otp_laws.proofs.laws.ticks_end_in_time.Goals as goal

pub returns : goal.returns
returns c = ticks_in_time
