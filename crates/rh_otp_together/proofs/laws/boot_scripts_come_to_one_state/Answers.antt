use Rattle.rh_otp_together.proofs.Booted.{come_to_one}
use Rattle.rh_otp_together.proofs.laws.boot_scripts_come_to_one_state.Goals as goal

pub returns : goal.returns
returns c = come_to_one
