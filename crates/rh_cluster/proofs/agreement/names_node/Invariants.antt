use Rattle.std.proofs.Common.{◌≡◌, drop}
use Rattle.rh_cluster.specs.Agreement.{names_node}
use Rattle.rh_cluster.proofs.agreement.names_node.Given as goal

abbrev pub invariant-loop-share : goal.invariant-loop-share
invariant-loop-share l = names_node l.node (drop l.share-index l.shares) ≡ names_node l.node l.shares
