use Rattle.rh_step_laws.proofs.LostStays.{lost_stays}
use Rattle.rh_step_laws.proofs.laws.lost_stays.Goals as goal

pub returns : goal.returns
returns c = lost_stays
