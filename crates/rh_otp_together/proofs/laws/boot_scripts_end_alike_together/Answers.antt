use Rattle.rh_otp_together.proofs.Law.{together_alike}
use Rattle.rh_otp_together.proofs.laws.boot_scripts_end_alike_together.Goals as goal

pub returns : goal.returns
returns c = together_alike
