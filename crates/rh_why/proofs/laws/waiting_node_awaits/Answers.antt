use Rattle.rh_why.proofs.Awaiting.{waiting_node_awaits}
use Rattle.rh_why.proofs.laws.waiting_node_awaits.Goals as goal

pub returns : goal.returns
returns c = waiting_node_awaits
