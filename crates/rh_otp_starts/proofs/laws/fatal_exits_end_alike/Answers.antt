use Rattle.rh_otp_starts.proofs.Exits.{fatal_exits_alike}
use Rattle.rh_otp_starts.proofs.laws.fatal_exits_end_alike.Goals as goal

pub returns : goal.returns
returns c = fatal_exits_alike
