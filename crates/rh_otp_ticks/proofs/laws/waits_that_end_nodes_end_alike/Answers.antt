use Rattle.rh_otp_ticks.proofs.WaitsEnd.{waits_end_alike}
use Rattle.rh_otp_ticks.proofs.laws.waits_that_end_nodes_end_alike.Goals as goal

pub returns : goal.returns
returns c = waits_end_alike
