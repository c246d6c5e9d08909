use Rattle.rh_agreement_takeovers.proofs.Calls.{calls_and_takeovers_alike}
use Rattle.rh_agreement_takeovers.proofs.laws.calls_and_takeovers_are_answered_alike.Goals as goal

pub returns : goal.returns
returns c = calls_and_takeovers_alike
