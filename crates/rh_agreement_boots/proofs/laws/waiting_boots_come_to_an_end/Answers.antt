use Rattle.rh_agreement_boots.proofs.Counting.{come_to_an_end}
use Rattle.rh_agreement_boots.proofs.laws.waiting_boots_come_to_an_end.Goals as goal

pub returns : goal.returns
returns c = come_to_an_end
