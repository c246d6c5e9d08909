use Rattle.rh_place.proofs.Bits.{first_member, first_lowest, not_none}
use Rattle.rh_place.proofs.node_set.NodeSet.first.Goals as goal

pub returns-clause-member : goal.returns-clause-member
returns-clause-member c = rw (← c.self.view_is) (first_member (record { bits = c.self.inside.bits }) c.self.invariant c.if-self-eq0.false)

pub returns-clause-lowest : goal.returns-clause-lowest
returns-clause-lowest c = rw (← c.self.view_is) (first_lowest (record { bits = c.self.inside.bits }) c.self.invariant c.if-self-eq0.false)

pub returns-clause-none : goal.returns-clause-none
returns-clause-none c = rw (← c.self.view_is) (
  (λ h. cc),
  not_none (record { bits = c.self.inside.bits }) c.self.invariant c.if-self-eq0.false,
)
