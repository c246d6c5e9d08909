use Rattle.rh_otp_joins.proofs.Connected.{all_bound as proved}
use Rattle.rh_otp_joins.proofs.laws.connected_nodes_are_alive.Goals as goal

pub returns : goal.returns
returns c = proved
