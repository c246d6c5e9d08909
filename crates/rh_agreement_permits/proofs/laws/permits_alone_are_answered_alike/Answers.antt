use Rattle.rh_agreement_permits.proofs.PermitAlike.{permits_alike}
use Rattle.rh_agreement_permits.proofs.laws.permits_alone_are_answered_alike.Goals as goal

pub returns : goal.returns
returns c = permits_alike
