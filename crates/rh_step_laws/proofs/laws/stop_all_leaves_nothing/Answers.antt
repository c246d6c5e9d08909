use Rattle.rh_step_laws.proofs.Everywhere.{stop_all_leaves_nothing}
use Rattle.rh_step_laws.proofs.laws.stop_all_leaves_nothing.Goals as goal

pub returns : goal.returns
returns c = stop_all_leaves_nothing
