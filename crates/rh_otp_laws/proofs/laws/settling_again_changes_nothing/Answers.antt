use Rattle.rh_otp_laws.proofs.Hanging.{settles_no_more}
use Rattle.rh_otp_laws.proofs.laws.settling_again_changes_nothing.Goals as goal

pub returns : goal.returns
returns c = settles_no_more
