use Rattle.rh_otp_joins.proofs.Ending.{ends_as_boot_does as proved}
use Rattle.rh_otp_joins.proofs.laws.joins_end_as_boots_do.Goals as goal

pub returns : goal.returns
returns c = proved
