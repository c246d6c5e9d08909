use Rattle.rh_otp_ticks.proofs.Firing.{left_over_alike}
use Rattle.rh_otp_ticks.proofs.laws.left_over_timers_change_nothing.Goals as goal

pub returns : goal.returns
returns c = left_over_alike
