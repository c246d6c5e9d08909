use Rattle.std.proofs.Common.{◌≡◌, ◌++◌, take}
use Rattle.std.specs.List.{flat_map}
use Rattle.rh_json_text.specs.Json.{behind_comma}
use Rattle.rh_otp_json_lines.specs.Nodes.{node_report_json}
use Rattle.rh_otp_explore_text.proofs.found_lines.push_each_node.Given as goal

abbrev pub invariant-loop-node : goal.invariant-loop-node
invariant-loop-node l =
    l.out.items ≡ l.fn.out.items ++ flat_map (behind_comma (node_report_json l.cluster)) (take l.node-index l.nodes)
