use Rattle.std.proofs.Common.{◌≡◌, drop}
use Rattle.std.specs.List.{list_any}
use Rattle.rh_model.specs.ClusterView.{is_in}
use Rattle.rh_cluster.proofs.agreement.lists_node.Given as goal

abbrev pub invariant-loop-group : goal.invariant-loop-group
invariant-loop-group l = list_any (is_in l.node) (drop l.group-index l.spread.groups) ≡ list_any (is_in l.node) l.spread.groups
