use Rattle.rh_agreement_spread.proofs.StopAlike.{exits_alike}
use Rattle.rh_agreement_spread.proofs.laws.exits_where_it_runs_are_answered_alike.Goals as goal

pub returns : goal.returns
returns c = exits_alike
