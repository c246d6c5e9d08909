use Rattle.rh_step_laws.proofs.Everywhere.{start_all_starts_everywhere}
use Rattle.rh_step_laws.proofs.laws.start_all_starts_everywhere.Goals as goal

pub returns : goal.returns
returns c = start_all_starts_everywhere
