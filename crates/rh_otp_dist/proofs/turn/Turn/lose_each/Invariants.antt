use Rattle.std.proofs.Common.{◌≡◌, drop}
use Rattle.rh_otp_dist.specs.Down.{lose_each}
use Rattle.rh_otp_dist.proofs.turn.Turn.lose_each.Given as goal

abbrev pub invariant-loop-entry : goal.invariant-loop-entry
invariant-loop-entry l = lose_each l.node (drop l.entry-index l.entries) l.self ≡ lose_each l.node l.entries l.fn.self
