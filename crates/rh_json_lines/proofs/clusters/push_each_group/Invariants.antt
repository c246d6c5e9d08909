use Rattle.std.proofs.Common.{◌≡◌, ◌++◌, take}
use Rattle.std.specs.List.{flat_map}
use Rattle.rh_json_lines.specs.ClusterLines.{group_json}
use Rattle.rh_json_text.specs.Json.{behind_comma}
use Rattle.rh_json_lines.proofs.clusters.push_each_group.Given as goal

abbrev pub invariant-loop-group : goal.invariant-loop-group
invariant-loop-group l = l.out.items ≡ l.fn.out.items ++ flat_map (behind_comma (group_json l.cluster)) (take l.group-index l.groups)
