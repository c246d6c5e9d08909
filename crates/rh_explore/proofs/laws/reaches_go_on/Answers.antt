use Rattle.rh_explore.proofs.GoesOn.{reaches_go_on as goes_on}
use Rattle.rh_explore.proofs.laws.reaches_go_on.Goals as goal

pub returns : goal.returns
returns c = goes_on
