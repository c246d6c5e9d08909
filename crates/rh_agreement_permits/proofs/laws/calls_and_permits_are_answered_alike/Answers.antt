use Rattle.rh_agreement_permits.proofs.Calls.{calls_and_permits_alike}
use Rattle.rh_agreement_permits.proofs.laws.calls_and_permits_are_answered_alike.Goals as goal

pub returns : goal.returns
returns c = calls_and_permits_alike
