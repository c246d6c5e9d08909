use Rattle.rh_terms.proofs.Longest.{one_line}
use Rattle.rh_terms.proofs.laws.stops_at_one_line.Goals as goal

pub returns : goal.returns
returns c = λ bytes line other h k. one_line bytes line other h k
