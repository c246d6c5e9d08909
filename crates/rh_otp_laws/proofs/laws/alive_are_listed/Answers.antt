use Rattle.rh_otp_laws.proofs.Listing.{alive_listed}
use Rattle.rh_otp_laws.proofs.laws.alive_are_listed.Goals as goal

pub returns : goal.returns
returns c = alive_listed
