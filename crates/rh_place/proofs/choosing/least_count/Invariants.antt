use Rattle.std.proofs.Common.{◌≡◌, take, map}
use Rattle.std.specs.List.{filter}
use Rattle.rh_state.specs.StateView.{running_count}
use Rattle.rh_state.specs.Stored.{read}
use Rattle.rh_place.specs.Sets.{has}
use Rattle.rh_base.proofs.Lists.{smallest}
use Rattle.rh_place.proofs.choosing.least_count.Given as goal

abbrev pub invariant-nodes : goal.invariant-nodes
invariant-nodes l = l.least ≡ smallest (map (running_count (read l.state)) (filter (has l.set) (take l.node-index l.group)))
