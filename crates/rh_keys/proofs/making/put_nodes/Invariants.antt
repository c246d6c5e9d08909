use Rattle.std.proofs.Common.{◌≡◌, ◌≤◌, ◌*◌, length, map, take}
use Rattle.std.specs.List.{flat_map, range_with_len}
use Rattle.rh_model.specs.ClusterView.{numbered}
use Rattle.rh_state.specs.Stored.{read}
use Rattle.rh_keys.specs.Codes.{code, node_room}
use Rattle.rh_keys.specs.Packed.{packed_node}
use Rattle.rh_keys.proofs.making.put_nodes.Given as goal

abbrev pub invariant-loop-number : goal.invariant-loop-number
invariant-loop-number l =
    (length l.cells ≡ length l.fn.cells)
    × (l.end ≤ l.number * node_room (read l.fn.state).cluster)
    × (take l.end l.cells ≡ code (flat_map (packed_node (read l.fn.state)) (map numbered (range_with_len 0 l.number))))
