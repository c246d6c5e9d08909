use Rattle.rh_agreement_rehearsals.proofs.ColdStarts.{cold_calls_alike}
use Rattle.rh_agreement_rehearsals.proofs.laws.cold_calls_are_answered_up_to_order.Goals as goal

pub returns : goal.returns
returns c = cold_calls_alike
