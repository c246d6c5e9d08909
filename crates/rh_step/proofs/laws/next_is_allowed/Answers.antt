use Rattle.rh_step.proofs.Outcomes.{next_allowed}
use Rattle.rh_step.proofs.laws.next_is_allowed.Goals as goal

pub returns : goal.returns
returns c = next_allowed
