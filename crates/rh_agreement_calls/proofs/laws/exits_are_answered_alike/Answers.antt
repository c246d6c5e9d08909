use Rattle.rh_agreement_calls.proofs.StopAlike.{exits_are_alike}
use Rattle.rh_agreement_calls.proofs.laws.exits_are_answered_alike.Goals as goal

pub returns : goal.returns
returns c = exits_are_alike
