use Rattle.rh_agreement_calls.proofs.StartAlike.{starts_are_alike}
use Rattle.rh_agreement_calls.proofs.laws.starts_are_answered_alike.Goals as goal

pub returns : goal.returns
returns c = starts_are_alike
