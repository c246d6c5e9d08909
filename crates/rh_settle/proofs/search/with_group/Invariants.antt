use Rattle.std.proofs.Common.{◌≡◌, ◌||◌, take, false}
use Rattle.rh_model.specs.ClusterView.{is_in}
use Rattle.rh_model.specs.declared.node.Node.{Node}
use Rattle.rh_place.specs.Sets.{has}
use Rattle.rh_settle.proofs.search.with_group.Given as goal

abbrev pub invariant-members : goal.invariant-members
invariant-members l = record {
  apart : is_in l.from (take l.node-index l.group) ≡ false;
  more : (n : Node) → has l.more n ≡ (has l.fn.set n || is_in n (take l.node-index l.group));
}
