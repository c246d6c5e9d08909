use Rattle.rh_otp_scripts.proofs.Script.{scripts_alike}
use Rattle.rh_otp_scripts.proofs.laws.scripts_end_alike.Goals as goal

pub returns : goal.returns
returns c = scripts_alike
