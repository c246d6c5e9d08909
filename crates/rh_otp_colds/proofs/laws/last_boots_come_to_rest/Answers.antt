use Rattle.rh_otp_together.proofs.Booted.{come_to_one}
use Rattle.rh_otp_together.proofs.Law.{together_alike}
use Rattle.rh_otp_colds.proofs.Coming.{come_to_rest}
use Rattle.rh_otp_colds.proofs.laws.last_boots_come_to_rest.Goals as goal

pub returns : goal.returns
returns c = come_to_rest together_alike come_to_one
