use Rattle.rh_otp_orders.proofs.Confluence.{orderly_alike}
use Rattle.rh_otp_orders.proofs.laws.orderly_nodes_end_alike.Goals as goal

pub returns : goal.returns
returns c = orderly_alike
