use Rattle.rh_agreement.proofs.Always.{peaceful_calls_alike}
use Rattle.rh_agreement.proofs.laws.peaceful_calls_are_answered_alike.Goals as goal

pub returns : goal.returns
returns c = peaceful_calls_alike
