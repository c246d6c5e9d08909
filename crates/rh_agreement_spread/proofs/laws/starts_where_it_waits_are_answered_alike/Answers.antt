use Rattle.rh_agreement_spread.proofs.WaitAlike.{waits_alike}
use Rattle.rh_agreement_spread.proofs.laws.starts_where_it_waits_are_answered_alike.Goals as goal

pub returns : goal.returns
returns c = waits_alike
