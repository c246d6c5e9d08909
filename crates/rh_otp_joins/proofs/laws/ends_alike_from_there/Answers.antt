use Rattle.rh_otp_joins.proofs.Leading.{ends_alike as proved}
use Rattle.rh_otp_joins.proofs.laws.ends_alike_from_there.Goals as goal

pub returns : goal.returns
returns c = proved
