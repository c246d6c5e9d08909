use Rattle.std.proofs.Common.{◌≡◌, ◌+◌, ◌≤◌, ℕ, cond, is_some, sym, ap, ◌∙◌, arith, nat_lt, nat_eq, false, inl, inr}
use Rattle.std.proofs.lemmas.Bool.Decides.{eqb_tells, nat_tests}
use Rattle.rh_model.specs.ClusterView.{ClusterView, node_count, numbered}
use Rattle.rh_state.specs.Stored.{read}
use Rattle.rh_base.specs.Lists.{head}
use Rattle.rh_base.proofs.Lists.{cases}
use Rattle.rh_place.specs.Sets.{has}
use Rattle.rh_rules.specs.Moves.{local_moves}
use Rattle.rh_settle.proofs.Boards.{local_beyond}
use Rattle.rh_settle.proofs.Starts.{none_local}
use Rattle.rh_trace.proofs.Entries.{is_below, is_above}
use Rattle.rh_settle.proofs.ready.local_nodes.Goals as goal

differs : (i j : ℕ) → j + 1 ≤ i → nat_eq i j ≡ false
differs i j h = grind (arith, nat_tests)

pub nodes-preserved : goal.nodes-preserved
nodes-preserved c =
    let s = read c.args.state.now in
    let i = c.nodes.number in
    let here = c.starts_at.ensures in
    record {
      below = λ n lt. elim (eqb_tells n.0 i) [
        | inl same ↦ c.put-nodes.ensures n ∙ ap (λ b. cond b c.starts_at.result (has c.nodes.nodes n)) same.0
            ∙ here ∙ ap (λ (j : ℕ). is_some (head (local_moves s (numbered j)))) (sym same.1)
        | inr other ↦ c.put-nodes.ensures n ∙ ap (λ b. cond b c.starts_at.result (has c.nodes.nodes n)) other.0
            ∙ c.nodes.invariant.below n (omega (arith, lt, other.1))
      ];
      above = λ n ge. c.put-nodes.ensures n ∙ ap (λ b. cond b c.starts_at.result (has c.nodes.nodes n)) (differs n.0 i ge)
          ∙ c.nodes.invariant.above n (omega (arith, ge));
    }

pub returns : goal.returns
returns c = λ n.
    let s = read c.args.state.now in
    cases (nat_lt n.0 c.nodes.number)
    (λ t. c.nodes.invariant.below n (is_below n.0 c.nodes.number t))
    (λ f. let above = is_above n.0 c.nodes.number f in
    let counted = c.node_count-count.ensures.count ∙ ap (λ (v : ClusterView). node_count v) c.cluster.ensures in
    c.nodes.invariant.above n above
    ∙ sym (ap (λ ms. is_some (head ms)) (local_beyond s n c.formed.ensures.shape (omega (arith, c.nodes-test.false, counted, above)))))

pub returns-then-is_empty : goal.returns-then-is_empty
returns-then-is_empty c = λ n.
    let s = read c.args.state.now in
    c.empty-nodes.ensures n
    ∙ sym (none_local s n c.formed.ensures.shape (λ a of. sym (c.requires a of) ∙ c.is_empty.ensures.0 c.if-is_empty.true a))
