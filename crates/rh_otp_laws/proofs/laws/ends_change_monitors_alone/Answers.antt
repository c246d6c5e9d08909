use Rattle.rh_otp_laws.proofs.Crashing.{ends_alone}
use Rattle.rh_otp_laws.proofs.laws.ends_change_monitors_alone.Goals as goal

pub returns : goal.returns
returns c = ends_alone
