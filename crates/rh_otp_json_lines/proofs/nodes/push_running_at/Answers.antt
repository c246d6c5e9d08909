use Rattle.std.proofs.Common.{codes}
use Rattle.rh_json_text.proofs.Arrays.{rest_behind_front}
use Rattle.rh_json_text.specs.Json.{json_array}
use Rattle.rh_otp_json_lines.specs.Nodes.{running_json, running_list}
use Rattle.rh_otp_json_lines.proofs.nodes.push_running_at.Goals as goal

pub returns : goal.returns
unfolding running_list
returns c =
    rest_behind_front c.push_running.result c.args.out.now.items (codes ",\"running\":")
    (json_array (running_json c.args.cluster.now) c.args.rows.now) c.push_text.new.out.items c.push_running.new.out.items
    c.in_ok-push_text.ensures c.push_running.ensures
