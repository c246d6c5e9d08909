use Rattle.rh_trail.proofs.Reversals.{calls_reversible}
use Rattle.rh_trail.proofs.laws.calls_are_reversible.Goals as goal

pub returns : goal.returns
returns c = calls_reversible
