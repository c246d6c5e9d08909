use Rattle.std.proofs.Common.{◌≡◌, take, false}
use Rattle.std.specs.List.{list_any}
use Rattle.rh_model.specs.ClusterView.{is_in}
use Rattle.rh_model.specs.declared.node.Node.{Node}
use Rattle.rh_place.specs.Sets.{has}
use Rattle.rh_settle.proofs.search.nodes_before.Given as goal

-- the node is in none of the groups so far, whose nodes these are
abbrev pub invariant-groups : goal.invariant-groups
invariant-groups l = record {
  apart : list_any (is_in l.from) (take l.group-index l.groups) ≡ false;
  nodes : (n : Node) → has l.nodes n ≡ list_any (is_in n) (take l.group-index l.groups);
}
