use Rattle.std.proofs.Common.{◌≡◌, map}
use Rattle.std.specs.List.{range_with_len, flat_map}
use Rattle.rh_model.specs.ClusterView.{numbered}
use Rattle.rh_state.specs.First.{configured}
use Rattle.rh_state.proofs.state.permissions_of.Given as goal

abbrev pub invariant-loop-number : goal.invariant-loop-number
invariant-loop-number l = l.permissions.items ≡ flat_map (configured l.cluster) (map numbered (range_with_len 0 l.number))
