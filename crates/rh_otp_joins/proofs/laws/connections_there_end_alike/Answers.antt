use Rattle.rh_otp_joins.proofs.Idling.{there_already as proved}
use Rattle.rh_otp_joins.proofs.laws.connections_there_end_alike.Goals as goal

pub returns : goal.returns
returns c = proved
