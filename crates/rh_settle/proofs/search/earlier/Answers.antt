use Rattle.std.proofs.Common.{◌≡◌, ◌≤◌, Bool, false, ◌&&◌, ap, ◌∙◌, sym, subst, position}
use Rattle.rh_model.specs.ClusterView.{ClusterView, node_count, is_in}
use Rattle.rh_rules.specs.Moves.{comes_before}
use Rattle.rh_settle.proofs.GroupWalks.{nowhere}
use Rattle.rh_settle.proofs.search.earlier.Goals as goal

first_false : (p q : Bool) → p ≡ false → p && q ≡ false
first_false p q none = ap (λ b. b && q) none

pub returns-in-Some-clause-others : goal.returns-in-Some-clause-others
returns-in-Some-clause-others c = λ n past.
    let v = c.cluster-cluster.result.now in
    let spread = c.in-Some.spread.now in
    let within = c.is_within.ensures.groups c.args.app spread (sym c.in-Some.ensures) in
    c.and.ensures n
    ∙ first_false _ _ (c.nodes_before.ensures n
    ∙ ap (λ o. comes_before o (position (is_in c.args.from) c.as_slice.result.now)) (ap (position (is_in n)) c.as_slice.ensures
    ∙ nowhere (node_count v) spread.groups n within (subst (λ (u : ClusterView). node_count u ≤ n.0) (sym c.cluster-cluster.ensures) past)))
