use Rattle.rh_place.proofs.Bits.{has_less, fewer_bits}
use Rattle.rh_place.proofs.node_set.NodeSet.without.Goals as goal

pub returns-clause-nodes : goal.returns-clause-nodes
returns-clause-nodes c = rw (← c.self.view_is) (λ n. has_less c.self.inside.bits c.args.node n c.self.invariant c.requires)

pub returns-clause-less : goal.returns-clause-less
returns-clause-less c = rw (← c.self.view_is) (λ here. fewer_bits c.self.inside.bits c.args.node c.self.invariant c.requires here)
