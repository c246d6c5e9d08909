use Rattle.rh_agreement_permits.proofs.FindAlike.{finds_alike}
use Rattle.rh_agreement_permits.proofs.laws.permits_where_it_runs_elsewhere_are_answered_alike.Goals as goal

pub returns : goal.returns
returns c = finds_alike
