use Rattle.std.proofs.Common.{◌≡◌, ◌&&◌, Bool, sym, ap, ◌∙◌, arith, false, true, length, refl, nat_lt}
use Rattle.rh_model.specs.ClusterView.{ClusterView, node_count}
use Rattle.rh_state.specs.Stored.{read}
use Rattle.rh_rules.specs.Placing.{is_operational}
use Rattle.rh_place.specs.Sets.{has}
use Rattle.rh_place.specs.declared.node_set.TheConstants.NodeSet.{LIMIT}
use Rattle.rh_base.proofs.Lists.{cases}
use Rattle.rh_place.proofs.Beyond.{beyond, is_below, is_above}
use Rattle.rh_place.proofs.choosing.operational_nodes.Goals as goal

not_both : (b : Bool) → (b && false) ≡ false
not_both true = refl
not_both false = refl

pub returns : goal.returns
returns c = λ n.
    let s = read c.args.state.now in
    c.operational_among.ensures n
    ∙ cases (nat_lt n.0 LIMIT)
    (λ t. ap (λ b. b && is_operational s c.args.app n) (c.all.ensures n (is_below n.0 LIMIT t)))
    (λ f. let above = is_above n.0 LIMIT f in
    let e : length s.modes ≡ node_count s.cluster = c.formed.ensures.shape.modes in
    let counted = c.node_count-few.ensures.count ∙ ap (λ (v : ClusterView). node_count v) c.cluster.ensures in
    let none = beyond s c.args.app n (omega (arith, c.node_count-few.ensures.limit)) in
    ap (λ b. has c.all.result n && b) none ∙ not_both (has c.all.result n) ∙ sym none)
