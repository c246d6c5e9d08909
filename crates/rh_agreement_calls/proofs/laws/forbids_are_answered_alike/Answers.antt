use Rattle.rh_agreement_calls.proofs.StopAlike.{forbids_are_alike}
use Rattle.rh_agreement_calls.proofs.laws.forbids_are_answered_alike.Goals as goal

pub returns : goal.returns
returns c = forbids_are_alike
