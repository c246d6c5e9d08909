use Rattle.std.proofs.Common.{◌≡◌, ◌&&◌, length, map}
use Rattle.std.specs.List.{range_with_len}
use Rattle.rh_model.specs.ClusterView.{app_numbered, is_permitted}
use Rattle.rh_model.specs.declared.node.App.{App}
use Rattle.rh_otp_model.specs.Own.{controls}
use Rattle.rh_otp_node.proofs.node.own_flags.Given as goal

abbrev pub invariant-loop-number : goal.invariant-loop-number
invariant-loop-number l = record {
  set : l.set.items ≡ map (λ (a : App). controls l.own a && is_permitted l.cluster l.node a) (map app_numbered (range_with_len 0 l.number));
  count : length l.set.items ≡ l.number;
}
