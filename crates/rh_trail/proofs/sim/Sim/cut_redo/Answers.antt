use Rattle.std.proofs.Common.{◌≤◌, List, sym, ap, subst, ◌∙◌}
use Rattle.rh_state.specs.declared.edit.Edit.{Edit}
use Rattle.rh_trail.specs.Chain.{chain, chain_at}
use Rattle.rh_trail.specs.SimView.{Held}
use Rattle.rh_trail.proofs.Chains.{cut_keeps, cut_chain}
use Rattle.rh_trail.proofs.sim.Sim.cut_redo.Goals as goal

pub invariant_of-self : goal.invariant_of-self
invariant_of-self c =
    let s = c.self.inside in
    rw (c.truncate.ensures.items, c.truncate-2.ensures) (record {
      chain = cut_keeps s.state s.records s.cursor s.state.cluster s.pick s.trail.items c.self.invariant.chain;
      spare = c.self.invariant.spare;
      shown = c.self.invariant.shown;
    })

pub returns-clause-chain : goal.returns-clause-chain
returns-clause-chain c = λ k bound.
    let s = c.self.inside in
    ap (λ (rs : List (List Edit)). chain_at s.state rs s.cursor k) c.truncate-2.ensures
    ∙ cut_chain s.state s.records s.cursor k (subst (λ (v : Held). k ≤ v.seen.cursor) (sym c.self.view_is) bound)
    ∙ (λ i. chain (c.self.view_is i) k)
