use Rattle.rh_otp_orders.proofs.Confluence.{picks_alike}
use Rattle.rh_otp_orders.proofs.laws.every_pick_ends_alike.Goals as goal

pub returns : goal.returns
returns c = picks_alike
