use Rattle.rh_otp_orders.proofs.Reaching.{whichever_first}
use Rattle.rh_otp_orders.proofs.laws.whichever_comes_first.Goals as goal

pub returns : goal.returns
returns c = whichever_first
