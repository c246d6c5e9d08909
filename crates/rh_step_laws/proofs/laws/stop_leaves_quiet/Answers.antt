use Rattle.rh_step_laws.proofs.Stops.{stop_leaves_quiet}
use Rattle.rh_step_laws.proofs.laws.stop_leaves_quiet.Goals as goal

pub returns : goal.returns
returns c = stop_leaves_quiet
