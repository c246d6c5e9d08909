use Rattle.std.proofs.Common.{◌≡◌, drop, find}
use Rattle.rh_otp_system.specs.Moves.{is_to_end, next_end}
use Rattle.rh_otp_system.proofs.system.System.first_to_end.Given as goal

abbrev pub invariant-loop-node : goal.invariant-loop-node
invariant-loop-node l = find (λ n. is_to_end n l.self) (drop l.node-index l.self.alive) ≡ next_end l.self
