use Rattle.rh_why.proofs.HasReason.{waiting_has_reason}
use Rattle.rh_why.proofs.laws.waiting_has_reason.Goals as goal

pub returns : goal.returns
returns c = waiting_has_reason
