use Rattle.rh_agreement.proofs.Quiet.{quiet_ticks_alike}
use Rattle.rh_agreement.proofs.laws.quiet_ticks_are_answered_alike.Goals as goal

pub returns : goal.returns
returns c = quiet_ticks_alike
