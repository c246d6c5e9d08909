use Rattle.rh_otp_ticks.proofs.WaitsEnd.{waits_do_no_more}
use Rattle.rh_otp_ticks.proofs.laws.waits_that_end_nodes_do_no_more.Goals as goal

pub returns : goal.returns
returns c = waits_do_no_more
