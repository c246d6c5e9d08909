use Rattle.std.proofs.Common.{◌∙◌}
use Rattle.rh_state.specs.Stored.{read}
use Rattle.rh_trail.proofs.sim.Sim.cluster.Goals as goal

pub returns : goal.returns
unfolding read
returns c = c.cluster.ensures ∙ (λ i. (c.self.view_is i).seen.cluster)
