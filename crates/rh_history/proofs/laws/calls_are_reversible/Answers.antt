use Rattle.rh_history.proofs.Reversals.{calls_reversible}
use Rattle.rh_history.proofs.laws.calls_are_reversible.Goals as goal

pub returns : goal.returns
returns g c = calls_reversible g.row.T.Denot
