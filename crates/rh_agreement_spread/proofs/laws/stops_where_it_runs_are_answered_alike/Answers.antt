use Rattle.rh_agreement_spread.proofs.StopAlike.{stops_alike}
use Rattle.rh_agreement_spread.proofs.laws.stops_where_it_runs_are_answered_alike.Goals as goal

pub returns : goal.returns
returns c = stops_alike
