use Rattle.rh_otp_returns.proofs.Arrival.{arrivals_meet as proved}
use Rattle.rh_otp_returns.proofs.laws.arrivals_come_to_one_state.Goals as goal

pub returns : goal.returns
returns c = proved
