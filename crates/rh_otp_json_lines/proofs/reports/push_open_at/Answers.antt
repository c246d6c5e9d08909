use Rattle.std.proofs.Common.{codes}
use Rattle.rh_json_text.proofs.Arrays.{rest_behind_front}
use Rattle.rh_json_text.specs.Json.{json_array}
use Rattle.rh_otp_json_lines.specs.Reports.{open_json, open_list}
use Rattle.rh_otp_json_lines.proofs.reports.push_open_at.Goals as goal

pub returns : goal.returns
unfolding open_list
returns c =
    rest_behind_front c.push_all_open.result c.args.out.now.items (codes ",\"open\":")
    (json_array (open_json c.args.cluster.now) c.args.calls.now) c.push_text.new.out.items c.push_all_open.new.out.items
    c.in_ok-push_text.ensures c.push_all_open.ensures
