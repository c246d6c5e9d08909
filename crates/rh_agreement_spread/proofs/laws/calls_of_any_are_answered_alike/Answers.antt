use Rattle.rh_agreement_spread.proofs.Calls.{calls_of_any_alike}
use Rattle.rh_agreement_spread.proofs.laws.calls_of_any_are_answered_alike.Goals as goal

pub returns : goal.returns
returns c = calls_of_any_alike
