use Rattle.std.proofs.Common.{sym, subst, ◌∙◌}
use Rattle.rh_trace.specs.Validity.{IsValid}
use Rattle.rh_trail.specs.SimView.{state_of}
use Rattle.rh_trail.proofs.Chains.{chain_reads}
use Rattle.rh_trail.proofs.sim.Sim.state.Goals as goal

pub returns-clause-state : goal.returns-clause-state
returns-clause-state c =
    let s = c.self.inside in
    chain_reads s.state.cluster s.pick s.trail.items s.state s.records s.cursor c.self.invariant.chain ∙ (λ i. state_of (c.self.view_is i).seen)

pub returns-clause-valid : goal.returns-clause-valid
returns-clause-valid c =
    let s = c.self.inside in
    subst IsValid (sym (chain_reads s.state.cluster s.pick s.trail.items s.state s.records s.cursor c.self.invariant.chain))
    (c.self.invariant.chain.valid s.cursor c.self.invariant.chain.within)
