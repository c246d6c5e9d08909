use Rattle.rh_otp_orders.proofs.Moving.{move_alike}
use Rattle.rh_otp_orders.proofs.laws.alike_move_alike.Goals as goal

pub returns : goal.returns
returns c = move_alike
