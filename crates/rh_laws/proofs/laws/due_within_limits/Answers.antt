use Rattle.rh_laws.proofs.DueSoon.{due_within_limits}
use Rattle.rh_laws.proofs.laws.due_within_limits.Goals as goal

pub returns : goal.returns
returns c = due_within_limits
