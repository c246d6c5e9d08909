use Rattle.rh_otp_ticks.proofs.Ticking.{moments_alike}
use Rattle.rh_otp_ticks.proofs.laws.ticks_through_moments_end_alike.Goals as goal

pub returns : goal.returns
returns c = moments_alike
