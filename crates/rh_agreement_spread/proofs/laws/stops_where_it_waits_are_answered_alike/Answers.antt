use Rattle.rh_agreement_spread.proofs.StopAlike.{leaves_alike}
use Rattle.rh_agreement_spread.proofs.laws.stops_where_it_waits_are_answered_alike.Goals as goal

pub returns : goal.returns
returns c = leaves_alike
