use Rattle.rh_why.proofs.Told.{reasons_are_so}
use Rattle.rh_why.proofs.laws.reasons_are_so.Goals as goal

pub returns : goal.returns
returns c = reasons_are_so
