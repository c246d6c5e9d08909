use Rattle.rh_step_laws.proofs.LostInTime.{lost_until_due}
use Rattle.rh_step_laws.proofs.laws.lost_until_due.Goals as goal

pub returns : goal.returns
returns c = lost_until_due
