use Rattle.rh_step_laws.proofs.StayUp.{up_until_ended}
use Rattle.rh_step_laws.proofs.laws.up_until_ended.Goals as goal

pub returns : goal.returns
returns c = up_until_ended
