use Rattle.rh_otp_laws.proofs.Order.{keeps_order}
use Rattle.rh_otp_laws.proofs.laws.messages_keep_their_order.Goals as goal

pub returns : goal.returns
returns c = keeps_order
