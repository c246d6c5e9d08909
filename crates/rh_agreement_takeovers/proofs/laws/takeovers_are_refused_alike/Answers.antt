use Rattle.rh_agreement_takeovers.proofs.Refused.{takeovers_refused_alike}
use Rattle.rh_agreement_takeovers.proofs.laws.takeovers_are_refused_alike.Goals as goal

pub returns : goal.returns
returns c = takeovers_refused_alike
