use Rattle.rh_state.specs.Stored.{read}
use Rattle.rh_story.proofs.Waiting.{nothing_of_node}
use Rattle.rh_story.proofs.reasons.push_awaited.Goals as goal

pub returns-else-node-node_count : goal.returns-else-node-node_count
returns-else-node-node_count c =
    nothing_of_node (read c.args.state.now) c.args.node c.cluster-cluster.result.now c.node_count.result c.args.text.now.items
    c.requires c.cluster-cluster.ensures c.node_count.ensures.count c.if-node-node_count.false
