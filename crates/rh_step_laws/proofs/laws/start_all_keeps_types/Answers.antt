use Rattle.rh_step_laws.proofs.Everywhere.{start_all_keeps_types}
use Rattle.rh_step_laws.proofs.laws.start_all_keeps_types.Goals as goal

pub returns : goal.returns
returns c = start_all_keeps_types
