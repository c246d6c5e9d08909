use Rattle.std.proofs.Common.{◌≡◌, drop}
use Rattle.std.specs.List.{list_any}
use Rattle.rh_cluster.specs.Agreement.{names_node}
use Rattle.rh_cluster.proofs.agreement.some_names_node.Given as goal

abbrev pub invariant-loop-index : goal.invariant-loop-index
invariant-loop-index l = list_any (names_node l.node) (drop l.index l.all) ≡ list_any (names_node l.node) l.all
