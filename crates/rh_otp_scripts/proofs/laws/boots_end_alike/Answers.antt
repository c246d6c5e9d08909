use Rattle.rh_otp_scripts.proofs.Script.{boots_alike}
use Rattle.rh_otp_scripts.proofs.laws.boots_end_alike.Goals as goal

pub returns : goal.returns
returns c = boots_alike
