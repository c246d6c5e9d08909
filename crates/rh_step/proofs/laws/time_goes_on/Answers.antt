use Rattle.rh_step.proofs.TimeLaws.{time_goes_on}
use Rattle.rh_step.proofs.laws.time_goes_on.Goals as goal

pub returns : goal.returns
returns c = time_goes_on
