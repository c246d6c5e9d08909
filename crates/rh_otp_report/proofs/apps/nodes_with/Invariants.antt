use Rattle.std.proofs.Common.{◌≡◌, filter, map}
use Rattle.std.specs.List.{range_with_len}
use Rattle.rh_model.specs.ClusterView.{numbered}
use Rattle.rh_otp_report.specs.Apps.{runs_at}
use Rattle.rh_otp_report.proofs.apps.nodes_with.Given as goal

abbrev pub invariant-loop-number : goal.invariant-loop-number
invariant-loop-number l = l.nodes.items ≡ filter (runs_at l.sim l.app) (map numbered (range_with_len 0 l.number))
