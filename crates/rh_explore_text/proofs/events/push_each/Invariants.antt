use Rattle.std.proofs.Common.{◌≡◌, ◌++◌, map}
use Rattle.std.specs.List.{flat_map, range_with_len}
use Rattle.rh_model.specs.ClusterView.{numbered}
use Rattle.rh_explore_text.specs.OpenEvents.{at_node, each_app}
use Rattle.rh_explore_text.proofs.events.push_each.Given as goal

abbrev pub invariant-nodes : goal.invariant-nodes
invariant-nodes l = l.moves.items
    ≡ l.fn.moves.items ++ flat_map (λ n. each_app l.cluster (at_node l.event n)) (map numbered (range_with_len 0 l.number))
