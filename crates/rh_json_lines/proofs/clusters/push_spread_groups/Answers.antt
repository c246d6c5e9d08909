use Rattle.std.proofs.Common.{codes}
use Rattle.rh_json_text.specs.Json.{json_array}
use Rattle.rh_json_lines.specs.ClusterLines.{group_json}
use Rattle.rh_json_text.proofs.Arrays.{rest_behind_front}
use Rattle.rh_json_lines.proofs.clusters.push_spread_groups.Goals as goal

pub returns : goal.returns
returns c =
    rest_behind_front c.push_groups.result c.args.out.now.items (codes "true,\"nodes\":")
    (json_array (group_json c.args.cluster.now) c.args.groups.now) c.push_text.new.out.items c.push_groups.new.out.items
    c.in_ok-push_text.ensures c.push_groups.ensures
