use Rattle.rh_otp_waits.proofs.Boot.{boots_alike}
use Rattle.rh_otp_waits.proofs.laws.waiting_boots_end_alike.Goals as goal

pub returns : goal.returns
returns c = boots_alike
