use Rattle.rh_otp_gathers.proofs.LastBoot.{last_boots}
use Rattle.rh_otp_gathers.proofs.laws.last_boots_come_to_one_state.Goals as goal

pub returns : goal.returns
returns c = last_boots
