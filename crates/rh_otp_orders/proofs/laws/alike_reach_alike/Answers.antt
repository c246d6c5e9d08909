use Rattle.rh_otp_orders.proofs.Reaching.{reach_alike}
use Rattle.rh_otp_orders.proofs.laws.alike_reach_alike.Goals as goal

pub returns : goal.returns
returns c = reach_alike
