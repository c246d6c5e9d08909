use Rattle.std.proofs.Common.{codes}
use Rattle.rh_json_text.proofs.Arrays.{rest_behind_front}
use Rattle.rh_json_text.specs.Json.{json_array}
use Rattle.rh_otp_json_lines.specs.Reports.{app_report_json, apps_list}
use Rattle.rh_otp_json_lines.proofs.reports.push_apps_at.Goals as goal

pub returns : goal.returns
unfolding apps_list
returns c =
    rest_behind_front c.push_all_apps.result c.args.out.now.items (codes ",\"applications\":")
    (json_array (app_report_json c.args.cluster.now) c.args.apps.now) c.push_text.new.out.items c.push_all_apps.new.out.items
    c.in_ok-push_text.ensures c.push_all_apps.ensures
