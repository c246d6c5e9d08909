use Rattle.rh_agreement_boots.proofs.BootAlike.{waiting_alike}
use Rattle.rh_agreement_boots.proofs.laws.waiting_boots_are_answered_alike.Goals as goal

pub returns : goal.returns
returns c = waiting_alike
