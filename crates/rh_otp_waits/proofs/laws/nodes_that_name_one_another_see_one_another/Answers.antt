use Rattle.rh_otp_waits.proofs.Naming.{named_see}
use Rattle.rh_otp_waits.proofs.laws.nodes_that_name_one_another_see_one_another.Goals as goal

pub returns : goal.returns
returns c = named_see
