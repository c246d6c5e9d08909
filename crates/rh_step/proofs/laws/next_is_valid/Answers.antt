use Rattle.rh_step.proofs.Validity.{next_valid}
use Rattle.rh_step.proofs.laws.next_is_valid.Goals as goal

pub returns : goal.returns
returns c = next_valid
