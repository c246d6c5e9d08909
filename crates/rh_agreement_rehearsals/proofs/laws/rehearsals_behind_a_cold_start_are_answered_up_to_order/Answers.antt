use Rattle.rh_agreement_rehearsals.proofs.WholeStarts.{rehearsals_alike}
use Rattle.rh_agreement_rehearsals.proofs.laws.rehearsals_behind_a_cold_start_are_answered_up_to_order.Goals as goal

pub returns : goal.returns
returns c = rehearsals_alike
