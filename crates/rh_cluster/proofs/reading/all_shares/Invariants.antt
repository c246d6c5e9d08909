use Rattle.std.proofs.Common.{◌≡◌, ℕ, List, map, take, unwrap_or}
use Rattle.std.specs.Option.{option_map}
use Rattle.rh_base.specs.Tree.{Tree, tree_of}
use Rattle.rh_cluster.specs.Headers.{nodes_in}
use Rattle.rh_cluster.specs.Values.{shares_under, shares_in}
use Rattle.rh_cluster.proofs.reading.all_shares.Given as goal

abbrev pub invariant-loop-index : goal.invariant-loop-index
invariant-loop-index l =
    map (λ o. unwrap_or o (shares_under l.names (option_map (λ t. tree_of t.now) l.value))) l.own.items
    ≡ map (λ (n : List ℕ × Tree). shares_in l.names n.1) (nodes_in (map tree_of (take l.index l.terms)))
