use Rattle.rh_agreement.proofs.AtFirst.{begin_at_rest}
use Rattle.rh_agreement.proofs.laws.rehearsals_begin_at_rest.Goals as goal

pub returns : goal.returns
returns c = begin_at_rest
