use Rattle.std.proofs.Common.{◌≡◌, ◌<◌, ℕ, true, nat_lt, List, map, Option, sym, ap, subst, arith}
use Rattle.std.proofs.lemmas.Bool.{ltb-true}
use Rattle.std.proofs.lemmas.Grind.{common_steps}
use Rattle.std.proofs.lemmas.List.Elements.{filter_map-append}
use Rattle.rh_base.specs.Tree.{Tree, tree_of}
use Rattle.rh_cluster.specs.Shapes.{◌>>=◌}
use Rattle.rh_cluster.specs.Values.{distributed_in, first_filled}
use Rattle.rh_cluster.specs.Common.{IsNoOther}
use Rattle.rh_cluster.proofs.NoOther.{of_term}
use Rattle.rh_cluster.proofs.reading.all_shares.Goals as goal

pub own_shares-requires : goal.own_shares-requires
own_shares-requires c = λ near.
    let early : nat_lt c.loop-index.index c.args.alike ≡ true = near in
    let few : c.loop-index.index < c.args.alike = ltb-true c.loop-index.index c.args.alike early in
    let own = ap (λ (o : Option (List ℕ × Tree)). o >>= λ n. distributed_in n.1) c.in-Some.ensures in
    subst (λ o. IsNoOther o (distributed_in (tree_of c.in-Some.config.now))) (sym c.first_filled-value.ensures)
    (subst (IsNoOther (first_filled (map tree_of c.args.terms.now))) (sym own)
    (of_term c.args.alike c.args.terms.now c.loop-index.index c.index-terms-index.result c.requires few
    c.loop-index-test.true c.index-terms-index.is))

pub loop-index-preserved : goal.loop-index-preserved
loop-index-preserved c = grind (arith, common_steps, filter_map-append)
