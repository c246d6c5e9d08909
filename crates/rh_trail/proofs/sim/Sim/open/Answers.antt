use Rattle.std.proofs.Common.{rules, ◌≡◌, [], sym, ap, subst}
use Rattle.rh_model.specs.ClusterView.{ClusterView}
use Rattle.rh_state.specs.First.{first, first_words}
use Rattle.rh_state.specs.Stored.{Stored, read}
use Rattle.rh_trail.proofs.Chains.{Chained, empty_chain}
use Rattle.rh_trail.proofs.sim.Sim.open.Goals as goal

pub invariant_of-result : goal.invariant_of-result
invariant_of-result c =
    let w : Stored = c.in_ok-state.state in
    let words : w ≡ first_words c.args.cluster = search rules in
    let reads : read w ≡ first c.args.cluster = search rules in
    let same : w.cluster ≡ c.args.cluster = ap (λ (x : Stored). x.cluster) words in
    let start : Chained w.cluster c.args.pick [] w [] 0 = subst (λ (v : ClusterView). Chained v c.args.pick [] w [] 0) (sym same)
    (empty_chain c.args.cluster c.args.pick w c.is_within.ensures words reads) in
    rw (c.new-2.ensures.items, c.new-3.ensures) (record { chain = start; spare = c.new-4.ensures.items; shown = tt })
