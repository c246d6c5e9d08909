use Rattle.rh_otp_orders.proofs.Commuting.{messages_commute}
use Rattle.rh_otp_orders.proofs.laws.messages_at_two_nodes_commute.Goals as goal

pub returns : goal.returns
returns c = messages_commute
