use Rattle.rh_agreement_ticks.proofs.Ticking.{ticks_alike}
use Rattle.rh_agreement_ticks.proofs.laws.ticks_through_moments_are_answered_alike.Goals as goal

pub returns : goal.returns
returns c = ticks_alike
