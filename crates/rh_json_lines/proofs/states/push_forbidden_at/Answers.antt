use Rattle.std.proofs.Common.{codes}
use Rattle.rh_state.specs.Stored.{read}
use Rattle.rh_json_text.specs.Json.{json_array}
use Rattle.rh_json_lines.specs.ClusterLines.{app_json}
use Rattle.rh_json_lines.specs.Reports.{forbidden_at, forbidden_list}
use Rattle.rh_json_text.proofs.Arrays.{rest_behind_front}
use Rattle.rh_json_lines.proofs.states.push_forbidden_at.Goals as goal

pub returns : goal.returns
unfolding forbidden_list
returns c =
    let s = read c.args.state.now in
    rest_behind_front c.push_all_forbidden.result c.args.out.now.items (codes ",\"forbidden\":")
    (json_array (app_json s.cluster) (forbidden_at s c.args.node)) c.push_text.new.out.items c.push_all_forbidden.new.out.items
    c.in_ok-push_text.ensures c.push_all_forbidden.ensures
