use Rattle.rh_agreement_colds.proofs.Calls.{cold_alike}
use Rattle.rh_agreement_colds.proofs.laws.last_boots_are_answered_in_some_order.Goals as goal

pub returns : goal.returns
returns c = cold_alike
