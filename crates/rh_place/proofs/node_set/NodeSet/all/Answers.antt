use Rattle.rh_place.proofs.Bits.{has_every}
use Rattle.rh_place.proofs.node_set.NodeSet.all.Goals as goal

pub returns : goal.returns
returns c = λ n small. has_every n small
