use Rattle.rh_settle.proofs.SettlingLaws.{few_moves}
use Rattle.rh_settle.proofs.laws.few_moves.Goals as goal

pub returns : goal.returns
returns c = few_moves
