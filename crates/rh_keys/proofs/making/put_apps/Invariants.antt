use Rattle.std.proofs.Common.{◌≡◌, ◌+◌, ◌*◌, ◌++◌, length, map, take}
use Rattle.std.specs.List.{flat_map, range_with_len}
use Rattle.rh_model.specs.ClusterView.{app_numbered}
use Rattle.rh_state.specs.Stored.{read}
use Rattle.rh_keys.specs.Codes.{code}
use Rattle.rh_keys.specs.Keys.{app_numbers}
use Rattle.rh_keys.proofs.making.put_apps.Given as goal

abbrev pub invariant-loop-number : goal.invariant-loop-number
invariant-loop-number l =
    (length l.cells ≡ length l.fn.cells)
    × (take (l.fn.at + 2 * l.number) l.cells ≡ take l.fn.at l.fn.cells ++ code (flat_map (app_numbers (read l.fn.state)) (map app_numbered (range_with_len 0 l.number))))
