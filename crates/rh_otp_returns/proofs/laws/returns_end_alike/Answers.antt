use Rattle.rh_otp_returns.proofs.Return.{returns_alike as proved}
use Rattle.rh_otp_returns.proofs.laws.returns_end_alike.Goals as goal

pub returns : goal.returns
returns c = proved
