use Rattle.rh_laws.proofs.OneByOne.{stop_all_is_stops}
use Rattle.rh_laws.proofs.laws.stop_all_is_stops.Goals as goal

pub returns : goal.returns
returns c = stop_all_is_stops
