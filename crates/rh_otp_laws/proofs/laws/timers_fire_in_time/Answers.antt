use Rattle.rh_otp_laws.proofs.Overdue.{in_time}
use Rattle.rh_otp_laws.proofs.laws.timers_fire_in_time.Goals as goal

pub returns : goal.returns
returns c = in_time
