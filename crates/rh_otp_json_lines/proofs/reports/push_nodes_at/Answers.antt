use Rattle.std.proofs.Common.{codes}
use Rattle.rh_json_text.proofs.Arrays.{rest_behind_front}
use Rattle.rh_json_text.specs.Json.{json_array}
use Rattle.rh_otp_json_lines.specs.Nodes.{node_report_json}
use Rattle.rh_otp_json_lines.specs.Reports.{nodes_list}
use Rattle.rh_otp_json_lines.proofs.reports.push_nodes_at.Goals as goal

pub returns : goal.returns
unfolding nodes_list
returns c =
    rest_behind_front c.push_all_nodes.result c.args.out.now.items (codes ",\"nodes\":")
    (json_array (node_report_json c.args.cluster.now) c.args.nodes.now) c.push_text.new.out.items c.push_all_nodes.new.out.items
    c.in_ok-push_text.ensures c.push_all_nodes.ensures
