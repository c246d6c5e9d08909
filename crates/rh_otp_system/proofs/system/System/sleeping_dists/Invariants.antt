use Rattle.std.proofs.Common.{◌≡◌, ◌++◌, drop}
use Rattle.rh_otp_system.specs.Resting.{sleeping_dists}
use Rattle.rh_otp_system.proofs.system.System.sleeping_dists.Given as goal

abbrev pub invariant-loop-node : goal.invariant-loop-node
invariant-loop-node l = l.found.items ++ sleeping_dists (drop l.node-index l.nodes) l.self ≡ sleeping_dists l.nodes l.self
