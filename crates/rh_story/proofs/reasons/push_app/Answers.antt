use Rattle.rh_state.specs.Stored.{read}
use Rattle.rh_story.proofs.Waiting.{nothing_past_node, nothing_past_app}
use Rattle.rh_story.proofs.reasons.push_app.Goals as goal
use Rattle.rh_story.proofs.reasons.push_app.Goals.{else-node-node_count-via-then-node-node_count+else-app-app_count, else-node-node_count-via-else-node-node_count}

pub returns-else-node-node_count : goal.returns-else-node-node_count
returns-else-node-node_count c = elim c.else-node-node_count.branch [
  | else-node-node_count-via-then-node-node_count+else-app-app_count w ↦
      nothing_past_app (read c.args.state.now) c.args.app c.args.node c.cluster-cluster.result.now w.app_count.result c.args.text.now.items
      c.requires c.cluster-cluster.ensures w.app_count.ensures.count w.if-app-app_count.false
  | else-node-node_count-via-else-node-node_count w ↦
      nothing_past_node (read c.args.state.now) c.args.app c.args.node c.cluster-cluster.result.now c.node_count.result c.args.text.now.items
      c.requires c.cluster-cluster.ensures c.node_count.ensures.count w.if-node-node_count.false
]
