use Rattle.rh_agreement_takeovers.proofs.Alike.{takeovers_alike}
use Rattle.rh_agreement_takeovers.proofs.laws.takeovers_are_answered_alike.Goals as goal

pub returns : goal.returns
returns c = takeovers_alike
