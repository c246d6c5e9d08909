use Rattle.std.proofs.Common.{◌≡◌, map}
use Rattle.std.specs.List.{filter_map, range_with_len}
use Rattle.rh_model.specs.ClusterView.{app_numbered}
use Rattle.rh_otp_report.specs.Apps.{app_report}
use Rattle.rh_otp_report.proofs.apps.app_reports.Given as goal

abbrev pub invariant-loop-number : goal.invariant-loop-number
invariant-loop-number l = l.reports.items ≡ filter_map (app_report l.sim) (map app_numbered (range_with_len 0 l.number))
