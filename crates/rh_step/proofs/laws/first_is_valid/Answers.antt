use Rattle.rh_step.proofs.FirstStates.{first_valid}
use Rattle.rh_step.proofs.laws.first_is_valid.Goals as goal

pub returns : goal.returns
returns c = first_valid
