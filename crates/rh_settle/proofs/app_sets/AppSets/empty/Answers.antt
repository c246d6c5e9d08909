use Rattle.rh_model.specs.declared.limits.TheConstants.{MAX_APPS}
use Rattle.rh_settle.proofs.SetTables.{among_none}
use Rattle.rh_settle.proofs.app_sets.AppSets.empty.Goals as goal

pub returns : goal.returns
returns c = λ a n. among_none c.empty.result MAX_APPS c.empty.ensures a n
