use Rattle.rh_step_laws.proofs.EndedWaits.{ends_without_mandatory}
use Rattle.rh_step_laws.proofs.laws.ends_without_mandatory.Goals as goal

pub returns : goal.returns
returns c = ends_without_mandatory
