use Rattle.std.proofs.Common.{◌≡◌, ◌||◌, take}
use Rattle.std.specs.List.{list_any}
use Rattle.rh_model.specs.ClusterView.{is_in}
use Rattle.rh_model.specs.declared.node.Node.{Node}
use Rattle.rh_place.specs.Sets.{has}
use Rattle.rh_settle.proofs.board.with_groups.Given as goal

abbrev pub invariant-groups : goal.invariant-groups
invariant-groups l = (n : Node) → has l.nodes n ≡ (has l.fn.set n || list_any (is_in n) (take l.group-index l.groups))
