use Rattle.rh_agreement_rehearsals.proofs.WholeStarts.{whole_starts_alike}
use Rattle.rh_agreement_rehearsals.proofs.laws.whole_starts_are_answered_alike.Goals as goal

pub returns : goal.returns
returns c = whole_starts_alike
