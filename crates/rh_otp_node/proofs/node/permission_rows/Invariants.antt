use Rattle.std.proofs.Common.{◌≡◌, map}
use Rattle.std.specs.List.{range_with_len}
use Rattle.rh_model.specs.ClusterView.{app_numbered, is_permitted}
use Rattle.rh_model.specs.declared.node.App.{App}
use Rattle.rh_otp_node.proofs.node.permission_rows.Given as goal

abbrev pub invariant-loop-number : goal.invariant-loop-number
invariant-loop-number l =
    l.rows.items ≡ map (λ (a : App). (a, is_permitted l.cluster l.node a)) (map app_numbered (range_with_len 0 l.number))
