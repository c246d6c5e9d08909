use Rattle.rh_settle.proofs.Resting.{settled_rests}
use Rattle.rh_settle.proofs.laws.quiet_and_lost_stay.Goals as goal

pub returns : goal.returns
returns c = settled_rests
