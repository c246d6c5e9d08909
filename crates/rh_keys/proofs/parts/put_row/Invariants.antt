use Rattle.std.proofs.Common.{◌≡◌, length, map, take}
use Rattle.std.specs.List.{flat_map, range_with_len}
use Rattle.rh_model.specs.ClusterView.{app_numbered}
use Rattle.rh_state.specs.Stored.{read}
use Rattle.rh_keys.specs.Codes.{code}
use Rattle.rh_keys.specs.Packed.{packed_pair}
use Rattle.rh_keys.proofs.parts.put_row.Given as goal

abbrev pub invariant-loop-number : goal.invariant-loop-number
invariant-loop-number l =
    (length l.row ≡ 128)
    × (take l.number l.row ≡ code (flat_map (packed_pair (read l.fn.state) l.fn.node) (map app_numbered (range_with_len 0 l.number))))
