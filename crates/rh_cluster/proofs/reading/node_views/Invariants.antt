use Rattle.std.proofs.Common.{◌≡◌, ℕ, List, map, take}
use Rattle.rh_base.specs.Tree.{Tree, tree_of}
use Rattle.rh_cluster.specs.Headers.{nodes_in}
use Rattle.rh_cluster.specs.Values.{node_view}
use Rattle.rh_cluster.proofs.reading.node_views.Given as goal

abbrev pub invariant-loop-term : goal.invariant-loop-term
invariant-loop-term l = l.nodes.items ≡ map (λ (n : List ℕ × Tree). node_view l.names n.1) (nodes_in (map tree_of (take l.term-index l.terms)))
