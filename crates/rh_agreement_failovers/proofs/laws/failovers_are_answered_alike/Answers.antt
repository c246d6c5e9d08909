use Rattle.rh_agreement_failovers.proofs.FailAlike.{failovers_alike}
use Rattle.rh_agreement_failovers.proofs.laws.failovers_are_answered_alike.Goals as goal

pub returns : goal.returns
returns c = failovers_alike
