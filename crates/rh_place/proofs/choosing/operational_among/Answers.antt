use Rattle.std.proofs.Common.{◌≡◌, Bool, sym, ap, ◌∙◌, arith, false, true, refl, ◌&&◌, nat_lt}
use Rattle.rh_model.specs.ClusterView.{ClusterView, node_count}
use Rattle.rh_state.specs.Stored.{read}
use Rattle.rh_place.specs.Sets.{has}
use Rattle.rh_base.proofs.Lists.{cases}
use Rattle.rh_place.proofs.Beyond.{beyond, is_below, is_above}
use Rattle.rh_place.proofs.choosing.operational_among.Goals as goal

not_both : (b : Bool) → (b && false) ≡ false
not_both true = refl
not_both false = refl

pub returns : goal.returns
returns c = λ n.
    let s = read c.args.state.now in
    let counted = c.node_count-count.ensures.count ∙ ap (λ (v : ClusterView). node_count v) c.cluster.ensures in
    cases (nat_lt n.0 (node_count s.cluster))
    (λ t. let lt = is_below n.0 (node_count s.cluster) t in
    c.nodes.invariant.seen n lt (c.in_default.ensures.none refl n (omega (arith, counted, lt))))
    (λ f. let above = is_above n.0 (node_count s.cluster) f in
    let e = c.formed.ensures.shape.modes in
    c.nodes.invariant.others n above
    ∙ sym (ap (λ b. has c.args.set n && b) (beyond s c.args.app n (omega (arith, e, above)))
    ∙ not_both (has c.args.set n)))
