use Rattle.rh_agreement.proofs.Peace.{crashes_alike}
use Rattle.rh_agreement.proofs.laws.crashes_are_answered_alike.Goals as goal

pub returns : goal.returns
returns c = crashes_alike
