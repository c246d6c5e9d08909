use Rattle.rh_step.proofs.TickLaws.{ticks_add_up}
use Rattle.rh_step.proofs.laws.ticks_add_up.Goals as goal

pub returns : goal.returns
returns c = ticks_add_up
