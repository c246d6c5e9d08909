use Rattle.rh_otp_reached.proofs.States.{states_reached}
use Rattle.rh_otp_reached.proofs.laws.live_states_are_reached.Goals as goal

pub returns : goal.returns
returns c = states_reached
