use Rattle.std.proofs.Common.{◌≡◌, ◌++◌, map}
use Rattle.std.specs.List.{range_with_len}
use Rattle.rh_model.specs.ClusterView.{app_numbered, is_permitted}
use Rattle.rh_state.proofs.state.push_permissions.Given as goal

abbrev pub invariant-loop-number : goal.invariant-loop-number
invariant-loop-number l = l.permissions.items ≡ l.fn.permissions.items ++ map (is_permitted l.cluster l.node) (map app_numbered (range_with_len 0 l.number))
