-- the homes so far are those of the nodes so far
use Rattle.std.proofs.Common.{◌≡◌, map, take}
use Rattle.rh_model.specs.Needs.{has_platforms}
use Rattle.rh_model.proofs.needs.homes_of.Given as goal

abbrev pub invariant-nodes : goal.invariant-nodes
invariant-nodes l = l.homes.items ≡ map (has_platforms l.deps) (take l.node-index l.nodes)
