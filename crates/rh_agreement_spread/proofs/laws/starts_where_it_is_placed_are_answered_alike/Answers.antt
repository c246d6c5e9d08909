use Rattle.rh_agreement_spread.proofs.StartAlike.{starts_alike}
use Rattle.rh_agreement_spread.proofs.laws.starts_where_it_is_placed_are_answered_alike.Goals as goal

pub returns : goal.returns
returns c = starts_alike
