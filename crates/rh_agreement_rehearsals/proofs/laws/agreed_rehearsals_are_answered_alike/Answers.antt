use Rattle.rh_agreement_rehearsals.proofs.Calls.{agreed_rehearsals_alike}
use Rattle.rh_agreement_rehearsals.proofs.laws.agreed_rehearsals_are_answered_alike.Goals as goal

pub returns : goal.returns
returns c = agreed_rehearsals_alike
