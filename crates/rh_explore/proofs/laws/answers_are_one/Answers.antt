use Rattle.rh_explore.proofs.OneAnswer.{answers_are_one}
use Rattle.rh_explore.proofs.laws.answers_are_one.Goals as goal

pub returns : goal.returns
returns c = answers_are_one
