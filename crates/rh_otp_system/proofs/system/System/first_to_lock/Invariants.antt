use Rattle.std.proofs.Common.{◌≡◌, drop, find}
use Rattle.rh_otp_system.specs.Moves.{can_go_on_at}
use Rattle.rh_otp_system.proofs.system.System.first_to_lock.Given as goal

abbrev pub invariant-loop-node : goal.invariant-loop-node
invariant-loop-node l = find (λ n. can_go_on_at n l.self) (drop l.node-index l.nodes) ≡ find (λ n. can_go_on_at n l.self) l.nodes
