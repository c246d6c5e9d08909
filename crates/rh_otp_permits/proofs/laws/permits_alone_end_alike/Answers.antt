use Rattle.rh_otp_permits.proofs.Permit.{permits_alone}
use Rattle.rh_otp_permits.proofs.laws.permits_alone_end_alike.Goals as goal

pub returns : goal.returns
returns c = permits_alone
