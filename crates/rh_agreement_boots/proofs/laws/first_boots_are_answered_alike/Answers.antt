use Rattle.rh_agreement_boots.proofs.Alone.{first_alike}
use Rattle.rh_agreement_boots.proofs.laws.first_boots_are_answered_alike.Goals as goal

pub returns : goal.returns
returns c = first_alike
