use Rattle.rh_manner.proofs.Plain.{plain_is_run}
use Rattle.rh_manner.proofs.laws.plain_manner_is_run.Goals as goal

pub returns : goal.returns
returns c = plain_is_run
