use Rattle.std.proofs.Common.{◌≡◌, ◌||◌, drop}
use Rattle.rh_model.specs.ClusterView.{is_in}
use Rattle.rh_model.specs.declared.node.Node.{Node}
use Rattle.rh_otp_net.specs.Matrix.{is_held}
use Rattle.rh_otp_net.proofs.links.set_of.Given as goal

abbrev pub invariant-loop-node : goal.invariant-loop-node
invariant-loop-node l = (n : Node) → (is_held l.set n || is_in n (drop l.node-index l.nodes)) ≡ is_in n l.nodes
