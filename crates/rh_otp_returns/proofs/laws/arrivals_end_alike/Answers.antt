use Rattle.rh_otp_returns.proofs.Arrival.{arrivals_alike as proved}
use Rattle.rh_otp_returns.proofs.laws.arrivals_end_alike.Goals as goal

pub returns : goal.returns
returns c = proved
