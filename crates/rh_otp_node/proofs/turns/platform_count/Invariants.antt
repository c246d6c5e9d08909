use Rattle.std.proofs.Common.{◌≡◌, ◌≤◌}
use Rattle.std.specs.List.{count_by, range_with_len}
use Rattle.rh_model.specs.ClusterView.{is_platform}
use Rattle.rh_otp_node.proofs.turns.platform_count.Given as goal

abbrev pub invariant-loop-platform : goal.invariant-loop-platform
invariant-loop-platform l = record {
  counted : l.count ≡ count_by (is_platform l.cluster l.node) (range_with_len 0 l.platform);
  few : l.count ≤ l.platform;
}
