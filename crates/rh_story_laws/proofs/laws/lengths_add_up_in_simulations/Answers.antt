use Rattle.rh_story_laws.proofs.Lengths.{lengths_add_up_in_simulations}
use Rattle.rh_story_laws.proofs.laws.lengths_add_up_in_simulations.Goals as goal

pub returns : goal.returns
returns c = lengths_add_up_in_simulations
