use Rattle.rh_otp_takeovers.proofs.Takeover.{takeovers_alike}
use Rattle.rh_otp_takeovers.proofs.laws.takeovers_end_alike.Goals as goal

pub returns : goal.returns
returns c = takeovers_alike
