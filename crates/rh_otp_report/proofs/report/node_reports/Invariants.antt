use Rattle.std.proofs.Common.{◌≡◌, map}
use Rattle.std.specs.List.{filter_map, range_with_len}
use Rattle.rh_model.specs.ClusterView.{numbered}
use Rattle.rh_otp_report.specs.Report.{node_told}
use Rattle.rh_otp_report.proofs.report.node_reports.Given as goal

abbrev pub invariant-loop-number : goal.invariant-loop-number
invariant-loop-number l = l.reports.items ≡ filter_map (node_told l.sim l.net) (map numbered (range_with_len 0 l.number))
