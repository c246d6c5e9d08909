use Rattle.std.proofs.Common.{◌≡◌, ◌≢◌, ◌<◌, ◌-◌, ℕ, List, [], slice_index_or, refl, arith, sym, ap, subst, ◌∙◌}
use Rattle.rh_base.specs.Exchanges.{backed}
use Rattle.rh_model.specs.ClusterView.{ClusterView}
use Rattle.rh_state.specs.declared.edit.Edit.{Edit}
use Rattle.rh_state.specs.Edits.{exchange, turned}
use Rattle.rh_state.specs.Stored.{Stored}
use Rattle.rh_calls.specs.declared.call.Call.TheVariants as call
use Rattle.rh_trail.specs.Chain.{chain, chain_at}
use Rattle.rh_trail.specs.Lone.{served}
use Rattle.rh_trace.proofs.Ways.{back_cluster}
use Rattle.rh_trail.proofs.Chains.{Chained, undo_goes, undo_keeps, undo_chains, undo_words}
use Rattle.rh_trail.proofs.Moves.{undo_served}
use Rattle.rh_trail.proofs.sim.Sim.undo.Goals as goal

some : (n : ℕ) → n ≢ 0 → 0 < n
some n h = omega (arith, h)

pub go_back-count-requires-clause-all : goal.go_back-count-requires-clause-all
go_back-count-requires-clause-all c =
    let s = c.self.inside in
    undo_goes s.state.cluster s.pick s.trail.items s.state s.records s.cursor (slice_index_or s.records (s.cursor - 1) []) [] _ _
    (some s.cursor c.if-self-eq0.false) c.self.invariant.chain refl refl refl

still : (c : goal.Joined-self) → c.go_back-count.new.state.cluster ≡ c.self.inside.state.cluster
still c = ap (λ (w : Stored). w.cluster) c.go_back-count.ensures.words ∙ back_cluster c.self.inside.state _

pub invariant_of-self : goal.invariant_of-self
invariant_of-self c =
    let s = c.self.inside in
    let kept = undo_keeps s.state.cluster s.pick s.trail.items s.state s.records s.cursor
    (slice_index_or s.records (s.cursor - 1) []) [] c.go_back-count.new.state
    (backed exchange turned s.state (slice_index_or s.records (s.cursor - 1) []))
    (some s.cursor c.if-self-eq0.false) c.self.invariant.chain refl c.go_back-count.ensures.words refl in
    record {
      chain = subst (λ (cl : ClusterView). Chained cl s.pick s.trail.items c.go_back-count.new.state c.go_back-count.new.self (s.cursor - 1)) (sym (still c))
          (subst (λ (rs : List (List Edit)). Chained s.state.cluster s.pick s.trail.items c.go_back-count.new.state rs (s.cursor - 1))
          (sym c.go_back-count.ensures.records) kept);
      spare = c.self.invariant.spare;
      shown = tt;
    }

pub returns-clause-answer : goal.returns-clause-answer
returns-clause-answer c =
    let s = c.self.inside in
    (λ i. served (sym c.self.view_is i).seen call.Undo)
    ∙ undo_served (record { cluster = s.state.cluster; pick = s.pick; trail = s.trail.items; cursor = s.cursor }) c.go_back-count.new.state.cluster
    c.if-self-eq0.false (still c)

pub returns-clause-chain : goal.returns-clause-chain
returns-clause-chain c = λ k bound.
    let s = c.self.inside in
    ap (λ (rs : List (List Edit)). chain_at c.go_back-count.new.state rs (s.cursor - 1) k) c.go_back-count.ensures.records
    ∙ undo_chains s.state.cluster s.pick s.trail.items s.state s.records s.cursor (slice_index_or s.records (s.cursor - 1) []) [] c.go_back-count.new.state
    (backed exchange turned s.state (slice_index_or s.records (s.cursor - 1) []))
    (some s.cursor c.if-self-eq0.false) c.self.invariant.chain refl c.go_back-count.ensures.words refl k
    ∙ (λ i. chain (c.self.view_is i) k)

pub returns-clause-words : goal.returns-clause-words
returns-clause-words c =
    let s = c.self.inside in
    undo_words s.state.cluster s.pick s.trail.items s.state s.records s.cursor (slice_index_or s.records (s.cursor - 1) []) [] c.go_back-count.new.state
    (backed exchange turned s.state (slice_index_or s.records (s.cursor - 1) []))
    (some s.cursor c.if-self-eq0.false) c.self.invariant.chain refl c.go_back-count.ensures.words refl
    ∙ (λ i. chain (c.self.view_is i) ((c.self.view_is i).seen.cursor - 1))

pub returns-clause-few : goal.returns-clause-few
returns-clause-few c =
    let s = c.self.inside in
    rw (← c.self.view_is) (λ event at. let few = c.self.invariant.chain.small (s.cursor - 1) event at in omega (arith, few, c.go_back-count.ensures.count))
