use Rattle.rh_place.proofs.Bits.{has_both}
use Rattle.rh_place.proofs.node_set.NodeSet.and.Goals as goal

pub returns : goal.returns
returns c = rw (← c.self.view_is, ← c.other.view_is) (λ n. has_both c.self.inside.bits c.other.inside.bits n)
