use Rattle.rh_otp_orders.proofs.Leaving.{leave_alone}
use Rattle.rh_otp_orders.proofs.laws.own_matters_leave_alone.Goals as goal

pub returns : goal.returns
returns c = leave_alone
