use Rattle.rh_agreement.proofs.Peace.{ticks_alike}
use Rattle.rh_agreement.proofs.laws.ticks_at_rest_are_answered_alike.Goals as goal

pub returns : goal.returns
returns c = ticks_alike
