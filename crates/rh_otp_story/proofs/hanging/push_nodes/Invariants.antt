use Rattle.std.proofs.Common.{◌≡◌, ◌++◌, take}
use Rattle.std.specs.List.{flat_map}
use Rattle.rh_otp_story.specs.Hanging.{node_blocks}
use Rattle.rh_otp_story.proofs.hanging.push_nodes.Given as goal

abbrev pub invariant-loop-node : goal.invariant-loop-node
invariant-loop-node l = l.text.items ≡ l.fn.text.items ++ flat_map (node_blocks l.cluster) (take l.node-index l.nodes)
