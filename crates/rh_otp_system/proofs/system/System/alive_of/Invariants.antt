use Rattle.std.proofs.Common.{◌≡◌, ◌++◌, drop, filter}
use Rattle.rh_otp_system.specs.State.{is_alive_at}
use Rattle.rh_otp_system.proofs.system.System.alive_of.Given as goal

abbrev pub invariant-loop-node : goal.invariant-loop-node
invariant-loop-node l = l.found.items ++ filter (is_alive_at l.self) (drop l.node-index l.nodes) ≡ filter (is_alive_at l.self) l.nodes
