use Rattle.rh_agreement_boots.proofs.Calls.{boots_and_peaceful_calls_alike}
use Rattle.rh_agreement_boots.proofs.laws.boots_and_peaceful_calls_are_answered_alike.Goals as goal

pub returns : goal.returns
returns c = boots_and_peaceful_calls_alike
