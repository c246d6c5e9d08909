use Rattle.rh_agreement_grants.proofs.Calls.{calls_and_grants_alike}
use Rattle.rh_agreement_grants.proofs.laws.calls_and_grants_are_answered_alike.Goals as goal

pub returns : goal.returns
returns c = calls_and_grants_alike
