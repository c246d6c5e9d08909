use Rattle.std.proofs.Common.{subst}
use Rattle.rh_trail.specs.SimView.{Held}
use Rattle.rh_trail.specs.Laws.{IsReversible}
use Rattle.rh_trail.proofs.Reversals.{reversible}
use Rattle.rh_trail.proofs.sim.Sim.is_reversible.Goals as goal

pub returns : goal.returns
returns c =
    let s = c.self.invariant.chain in
    subst (λ (v : Held). IsReversible v.seen) c.self.view_is
    (reversible (record { cluster = c.self.inside.state.cluster; pick = c.self.inside.pick; trail = c.self.inside.trail.items; cursor = c.self.inside.cursor })
    (record { within = s.within; limited = s.limited; valid = s.valid }))
