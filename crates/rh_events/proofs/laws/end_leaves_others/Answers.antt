use Rattle.rh_events.proofs.EndLaws.{end_leaves_others}
use Rattle.rh_events.proofs.laws.end_leaves_others.Goals as goal

pub returns : goal.returns
returns c = end_leaves_others
