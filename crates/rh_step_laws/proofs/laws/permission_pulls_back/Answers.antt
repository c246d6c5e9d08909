use Rattle.rh_step_laws.proofs.PullsBack.{permission_pulls_back}
use Rattle.rh_step_laws.proofs.laws.permission_pulls_back.Goals as goal

pub returns : goal.returns
returns c = permission_pulls_back
