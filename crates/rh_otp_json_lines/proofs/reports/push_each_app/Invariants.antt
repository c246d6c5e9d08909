use Rattle.std.proofs.Common.{◌≡◌, ◌++◌, take}
use Rattle.std.specs.List.{flat_map}
use Rattle.rh_json_text.specs.Json.{behind_comma}
use Rattle.rh_otp_json_lines.specs.Reports.{app_report_json}
use Rattle.rh_otp_json_lines.proofs.reports.push_each_app.Given as goal

abbrev pub invariant-loop-app : goal.invariant-loop-app
invariant-loop-app l = l.out.items ≡ l.fn.out.items ++ flat_map (behind_comma (app_report_json l.cluster)) (take l.app-index l.apps)
