use Rattle.std.proofs.Common.{◌≡◌, ◌≢◌, ◌<◌, ◌≤◌, ◌+◌, ℕ, List, [], length, slice_index_or, refl, arith, sym, ap, subst, ◌∙◌}
use Rattle.rh_base.specs.Exchanges.{forthed}
use Rattle.rh_model.specs.ClusterView.{ClusterView}
use Rattle.rh_rules.specs.declared.event.Event.{Event}
use Rattle.rh_state.specs.declared.edit.Edit.{Edit}
use Rattle.rh_state.specs.Edits.{exchange, turned}
use Rattle.rh_state.specs.Stored.{Stored}
use Rattle.rh_calls.specs.declared.call.Call.TheVariants as call
use Rattle.rh_trail.specs.Chain.{chain, chain_at}
use Rattle.rh_trail.specs.Lone.{served}
use Rattle.rh_trace.proofs.Ways.{forth_cluster}
use Rattle.rh_trail.proofs.Chains.{Chained, redo_keeps, redo_chains, redo_words}
use Rattle.rh_trail.proofs.Moves.{redo_served}
use Rattle.rh_trail.proofs.sim.Sim.redo.Goals as goal

some : (rs : List (List Edit)) (trail : List Event) (n m : ℕ) → length rs ≡ length trail → n ≤ length trail → m ≡ length trail → n ≢ m → n < length rs
some rs trail n m count within is other = omega (arith, count, within, is, other)

still : (c : goal.Joined-self) → c.go_forth-count.new.state.cluster ≡ c.self.inside.state.cluster
still c = ap (λ (w : Stored). w.cluster) c.go_forth-count.ensures.words
    ∙ forth_cluster c.self.inside.state (slice_index_or c.self.inside.records c.self.inside.cursor [])

pub invariant_of-self : goal.invariant_of-self
invariant_of-self c =
    let s = c.self.inside in
    let kept = redo_keeps s.state.cluster s.pick s.trail.items s.state s.records s.cursor (slice_index_or s.records s.cursor []) [] c.go_forth-count.new.state
    (forthed exchange turned s.state (slice_index_or s.records s.cursor []))
    (some s.records s.trail.items s.cursor c.len.result c.self.invariant.chain.count c.self.invariant.chain.within
    (c.len.ensures ∙ s.trail.ok.0) c.if-self-len.false) c.self.invariant.chain refl c.go_forth-count.ensures.words refl in
    record {
      chain = subst (λ (cl : ClusterView). Chained cl s.pick s.trail.items c.go_forth-count.new.state c.go_forth-count.new.self (s.cursor + 1)) (sym (still c))
          (subst (λ (rs : List (List Edit)). Chained s.state.cluster s.pick s.trail.items c.go_forth-count.new.state rs (s.cursor + 1))
          (sym c.go_forth-count.ensures.records) kept);
      spare = c.self.invariant.spare;
      shown = tt;
    }

pub returns-clause-answer : goal.returns-clause-answer
returns-clause-answer c =
    let s = c.self.inside in
    (λ i. served (sym c.self.view_is i).seen call.Redo)
    ∙ redo_served (record { cluster = s.state.cluster; pick = s.pick; trail = s.trail.items; cursor = s.cursor }) c.go_forth-count.new.state.cluster
    (λ e. c.if-self-len.false (e ∙ sym (c.len.ensures ∙ s.trail.ok.0))) (still c)

pub returns-clause-chain : goal.returns-clause-chain
returns-clause-chain c = λ k bound.
    let s = c.self.inside in
    ap (λ (rs : List (List Edit)). chain_at c.go_forth-count.new.state rs (s.cursor + 1) k) c.go_forth-count.ensures.records
    ∙ redo_chains s.state.cluster s.pick s.trail.items s.state s.records s.cursor (slice_index_or s.records s.cursor []) [] c.go_forth-count.new.state
    (forthed exchange turned s.state (slice_index_or s.records s.cursor []))
    (some s.records s.trail.items s.cursor c.len.result c.self.invariant.chain.count c.self.invariant.chain.within
    (c.len.ensures ∙ s.trail.ok.0) c.if-self-len.false) c.self.invariant.chain refl c.go_forth-count.ensures.words refl k
    ∙ (λ i. chain (c.self.view_is i) k)

pub returns-clause-words : goal.returns-clause-words
returns-clause-words c =
    let s = c.self.inside in
    redo_words s.state.cluster s.pick s.trail.items s.state s.records s.cursor (slice_index_or s.records s.cursor []) [] c.go_forth-count.new.state
    (forthed exchange turned s.state (slice_index_or s.records s.cursor []))
    (some s.records s.trail.items s.cursor c.len.result c.self.invariant.chain.count c.self.invariant.chain.within
    (c.len.ensures ∙ s.trail.ok.0) c.if-self-len.false) c.self.invariant.chain refl c.go_forth-count.ensures.words refl
    ∙ (λ i. chain (c.self.view_is i) ((c.self.view_is i).seen.cursor + 1))

pub returns-clause-few : goal.returns-clause-few
returns-clause-few c =
    let s = c.self.inside in
    rw (← c.self.view_is) (λ event at. let few = c.self.invariant.chain.small s.cursor event at in omega (arith, few, c.go_forth-count.ensures.count))
