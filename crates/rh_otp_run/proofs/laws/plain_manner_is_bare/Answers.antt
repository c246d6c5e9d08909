use Rattle.rh_otp_run.proofs.Plain.{plain_is_bare}
use Rattle.rh_otp_run.proofs.laws.plain_manner_is_bare.Goals as goal

pub returns : goal.returns
returns c = plain_is_bare
