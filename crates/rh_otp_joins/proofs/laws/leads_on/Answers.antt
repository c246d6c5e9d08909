use Rattle.rh_otp_joins.proofs.Leading.{leads_on as proved}
use Rattle.rh_otp_joins.proofs.laws.leads_on.Goals as goal

pub returns : goal.returns
returns c = proved
