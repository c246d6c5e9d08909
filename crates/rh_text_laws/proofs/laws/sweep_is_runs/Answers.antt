use Rattle.rh_text_laws.proofs.PlanInputs.{sweep_is_runs}
use Rattle.rh_text_laws.proofs.laws.sweep_is_runs.Goals as goal

pub returns : goal.returns
returns c = sweep_is_runs
