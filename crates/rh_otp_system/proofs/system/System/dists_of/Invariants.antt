use Rattle.std.proofs.Common.{◌≡◌, ◌++◌, drop, filter}
use Rattle.rh_otp_system.specs.State.{has_dist_at}
use Rattle.rh_otp_system.proofs.system.System.dists_of.Given as goal

abbrev pub invariant-loop-node : goal.invariant-loop-node
invariant-loop-node l = l.found.items ++ filter (has_dist_at l.self) (drop l.node-index l.nodes) ≡ filter (has_dist_at l.self) l.nodes
