use Rattle.rh_agreement.proofs.Beginning.{begin_together}
use Rattle.rh_agreement.proofs.laws.rehearsals_begin_together.Goals as goal

pub returns : goal.returns
returns c = begin_together
