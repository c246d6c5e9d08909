use Rattle.rh_trace.proofs.NextFirsts.{next_are_first}
use Rattle.rh_settle.proofs.laws.next_are_first.Goals as goal

pub returns : goal.returns
returns c = next_are_first
