use Rattle.rh_agreement.proofs.Refusing.{nodes_events_alike}
use Rattle.rh_agreement.proofs.laws.nodes_events_are_refused_alike.Goals as goal

pub returns : goal.returns
returns c = nodes_events_alike
