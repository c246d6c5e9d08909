use Rattle.rh_why.proofs.Awaiting.{ready_if_none_awaited}
use Rattle.rh_why.proofs.laws.ready_if_none_awaited.Goals as goal

pub returns : goal.returns
returns c = ready_if_none_awaited
