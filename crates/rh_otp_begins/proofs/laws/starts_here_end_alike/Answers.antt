use Rattle.rh_otp_begins.proofs.Here.{here_alike}
use Rattle.rh_otp_begins.proofs.laws.starts_here_end_alike.Goals as goal

pub returns : goal.returns
returns c = here_alike
