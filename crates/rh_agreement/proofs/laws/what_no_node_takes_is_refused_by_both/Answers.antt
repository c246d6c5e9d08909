use Rattle.rh_agreement.proofs.Refusing.{refused_by_both}
use Rattle.rh_agreement.proofs.laws.what_no_node_takes_is_refused_by_both.Goals as goal

pub returns : goal.returns
returns c = refused_by_both
