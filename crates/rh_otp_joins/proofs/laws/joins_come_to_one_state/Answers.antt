use Rattle.rh_otp_joins.proofs.Returning.{comes_back as proved}
use Rattle.rh_otp_joins.proofs.laws.joins_come_to_one_state.Goals as goal

pub returns : goal.returns
returns c = proved
