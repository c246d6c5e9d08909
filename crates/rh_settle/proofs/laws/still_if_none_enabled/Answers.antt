use Rattle.rh_trace.proofs.NextFirsts.{still_if_none_enabled}
use Rattle.rh_settle.proofs.laws.still_if_none_enabled.Goals as goal

pub returns : goal.returns
returns c = still_if_none_enabled
