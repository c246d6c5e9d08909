use Rattle.rh_step.proofs.FiringsTold.{firings_are_in_time}
use Rattle.rh_step.proofs.firings.firings_are_in_time.Goals as goal

pub returns : goal.returns
returns c = firings_are_in_time
