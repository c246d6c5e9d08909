use Rattle.std.proofs.Common.{codes}
use Rattle.rh_json_text.proofs.Arrays.{rest_behind_front}
use Rattle.rh_json_text.specs.Json.{json_array}
use Rattle.rh_json_lines.specs.ClusterLines.{app_json}
use Rattle.rh_otp_json_lines.specs.Nodes.{starting_list}
use Rattle.rh_otp_json_lines.proofs.nodes.push_starting_at.Goals as goal

pub returns : goal.returns
unfolding starting_list
returns c =
    rest_behind_front c.push_apps.result c.args.out.now.items (codes ",\"starting\":")
    (json_array (app_json c.args.cluster.now) c.args.apps.now) c.push_text.new.out.items c.push_apps.new.out.items
    c.in_ok-push_text.ensures c.push_apps.ensures
