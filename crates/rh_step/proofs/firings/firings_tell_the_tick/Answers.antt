use Rattle.rh_step.proofs.FiringsTold.{firings_tell_the_tick}
use Rattle.rh_step.proofs.firings.firings_tell_the_tick.Goals as goal

pub returns : goal.returns
returns c = firings_tell_the_tick
