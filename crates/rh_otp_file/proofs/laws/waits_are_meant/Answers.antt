use Rattle.rh_otp_file.proofs.Kept.{waits_are_meant}
use Rattle.rh_otp_file.proofs.laws.waits_are_meant.Goals as goal

pub returns : goal.returns
returns c = waits_are_meant
