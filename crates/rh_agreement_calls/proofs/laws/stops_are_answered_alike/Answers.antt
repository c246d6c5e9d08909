use Rattle.rh_agreement_calls.proofs.StopAlike.{stops_are_alike}
use Rattle.rh_agreement_calls.proofs.laws.stops_are_answered_alike.Goals as goal

pub returns : goal.returns
returns c = stops_are_alike
