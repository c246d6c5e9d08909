use Rattle.rh_otp_gathers.proofs.Opening.{gathers}
use Rattle.rh_otp_gathers.proofs.laws.nodes_that_gather_come_to_one_state.Goals as goal

pub returns : goal.returns
returns c = gathers
