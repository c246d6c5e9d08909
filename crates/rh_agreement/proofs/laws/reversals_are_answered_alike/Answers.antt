use Rattle.rh_agreement.proofs.Reversing.{reversals_alike}
use Rattle.rh_agreement.proofs.laws.reversals_are_answered_alike.Goals as goal

pub returns : goal.returns
returns c = reversals_alike
