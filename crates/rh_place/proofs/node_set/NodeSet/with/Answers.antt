use Rattle.rh_place.proofs.Bits.{has_more, bits_more}
use Rattle.rh_place.proofs.node_set.NodeSet.with.Goals as goal

pub returns : goal.returns
returns c = rw (← c.self.view_is) (λ n. has_more c.self.inside.bits c.args.node n c.requires)

pub invariant_of-result : goal.invariant_of-result
invariant_of-result c = bits_more c.self.inside.bits c.args.node c.self.invariant
