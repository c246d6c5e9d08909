use Rattle.std.proofs.Common.{◌≡◌, IfOk, sym, ap, subst, ◌∙◌}
use Rattle.rh_rules.specs.declared.event.Event.TheVariants.{Tick}
use Rattle.rh_rules.specs.Refusals.{refused}
use Rattle.rh_trace.specs.Validity.{IsValid}
use Rattle.rh_state.specs.StateView.{StateView}
use Rattle.rh_step.specs.Firings.{firings}
use Rattle.rh_trail.specs.SimView.{Held, state_of}
use Rattle.rh_trail.proofs.Chains.{chain_reads}
use Rattle.rh_trail.proofs.sim.Sim.firings.Goals as goal

pub firings_of-requires-clause-accepted : goal.firings_of-requires-clause-accepted
firings_of-requires-clause-accepted c =
    let s = c.self.inside in
    ap (λ (x : StateView). refused x (Tick c.args.ms))
    (chain_reads s.state.cluster s.pick s.trail.items s.state s.records s.cursor c.self.invariant.chain ∙ (λ i. state_of (c.self.view_is i).seen))
    ∙ c.requires

pub firings_of-requires-clause-valid : goal.firings_of-requires-clause-valid
firings_of-requires-clause-valid c =
    let s = c.self.inside in
    subst IsValid (sym (chain_reads s.state.cluster s.pick s.trail.items s.state s.records s.cursor c.self.invariant.chain))
    (c.self.invariant.chain.valid s.cursor c.self.invariant.chain.within)

pub returns-clause-firings : goal.returns-clause-firings
returns-clause-firings c =
    let s = c.self.inside in
    let reads = chain_reads s.state.cluster s.pick s.trail.items s.state s.records s.cursor c.self.invariant.chain in
    subst (λ (v : Held). IfOk c.firings_of.result (λ fired. fired.items ≡ firings (state_of v.seen) c.args.ms v.seen.pick)) c.self.view_is
    (subst (λ (x : StateView). IfOk c.firings_of.result (λ fired. fired.items ≡ firings x c.args.ms s.pick)) reads c.firings_of.ensures.firings)
