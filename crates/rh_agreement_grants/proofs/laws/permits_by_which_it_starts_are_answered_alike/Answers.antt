use Rattle.rh_agreement_grants.proofs.Alike.{grants_alike}
use Rattle.rh_agreement_grants.proofs.laws.permits_by_which_it_starts_are_answered_alike.Goals as goal

pub returns : goal.returns
returns c = grants_alike
