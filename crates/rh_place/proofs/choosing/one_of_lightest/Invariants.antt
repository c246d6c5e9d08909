use Rattle.std.proofs.Common.{◌≡◌, ◌==◌, take}
use Rattle.std.specs.List.{filter}
use Rattle.rh_model.specs.declared.node.Node.{Node}
use Rattle.rh_state.specs.StateView.{running_count}
use Rattle.rh_state.specs.Stored.{read}
use Rattle.rh_place.specs.Sets.{has}
use Rattle.rh_rules.specs.Placing.{picked}
use Rattle.rh_place.proofs.choosing.one_of_lightest.Given as goal

abbrev pub invariant-nodes : goal.invariant-nodes
invariant-nodes l = l.found ≡ picked l.pick (filter (λ (m : Node). running_count (read l.state) m == l.count) (filter (has l.set) (take l.node-index l.group)))
