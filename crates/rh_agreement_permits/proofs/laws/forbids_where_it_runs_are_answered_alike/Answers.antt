use Rattle.rh_agreement_permits.proofs.ForbidAlike.{forbids_alike}
use Rattle.rh_agreement_permits.proofs.laws.forbids_where_it_runs_are_answered_alike.Goals as goal

pub returns : goal.returns
returns c = forbids_alike
