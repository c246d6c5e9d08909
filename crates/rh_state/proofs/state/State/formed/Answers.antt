use Rattle.rh_state.proofs.Formed.{IsShaped-formed, OnceAtEachNode-formed}
use Rattle.rh_state.proofs.state.State.formed.Goals as goal

pub returns-clause-shape : goal.returns-clause-shape
returns-clause-shape c = rw (← c.self.view_is) (IsShaped-formed _ c.self.invariant)

pub returns-clause-once : goal.returns-clause-once
returns-clause-once c = rw (← c.self.view_is) (OnceAtEachNode-formed _ c.self.invariant)
