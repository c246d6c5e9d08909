use Rattle.rh_explore.proofs.Between.{met_in_time}
use Rattle.rh_explore.proofs.laws.within_is_met_in_time.Goals as goal

pub returns : goal.returns
returns c = met_in_time
