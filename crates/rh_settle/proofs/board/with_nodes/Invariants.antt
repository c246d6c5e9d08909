use Rattle.std.proofs.Common.{◌≡◌, ◌||◌, take}
use Rattle.rh_model.specs.ClusterView.{is_in}
use Rattle.rh_model.specs.declared.node.Node.{Node}
use Rattle.rh_place.specs.Sets.{has}
use Rattle.rh_settle.proofs.board.with_nodes.Given as goal

abbrev pub invariant-nodes : goal.invariant-nodes
invariant-nodes l = (n : Node) → has l.nodes n ≡ (has l.fn.set n || is_in n (take l.node-index l.group))
