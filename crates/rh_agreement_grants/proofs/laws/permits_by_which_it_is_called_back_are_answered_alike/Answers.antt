use Rattle.rh_agreement_grants.proofs.CallBackAlike.{call_backs_alike}
use Rattle.rh_agreement_grants.proofs.laws.permits_by_which_it_is_called_back_are_answered_alike.Goals as goal

pub returns : goal.returns
returns c = call_backs_alike
