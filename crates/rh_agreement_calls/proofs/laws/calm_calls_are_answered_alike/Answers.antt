use Rattle.rh_agreement_calls.proofs.Calm.{calm_calls_alike}
use Rattle.rh_agreement_calls.proofs.laws.calm_calls_are_answered_alike.Goals as goal

pub returns : goal.returns
returns c = calm_calls_alike
