use Rattle.rh_otp_orders.proofs.Following.{go_on_alike}
use Rattle.rh_otp_orders.proofs.laws.alike_go_on_alike.Goals as goal

pub returns : goal.returns
returns c = go_on_alike
