use Rattle.rh_step_laws.proofs.LostStays.{lost_stays_at_other_timers}
use Rattle.rh_step_laws.proofs.laws.lost_stays_at_other_timers.Goals as goal

pub returns : goal.returns
returns c = lost_stays_at_other_timers
