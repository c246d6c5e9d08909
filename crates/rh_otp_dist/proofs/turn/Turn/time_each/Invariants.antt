use Rattle.std.proofs.Common.{◌≡◌, drop}
use Rattle.rh_otp_dist.specs.Down.{time_each}
use Rattle.rh_otp_dist.proofs.turn.Turn.time_each.Given as goal

abbrev pub invariant-loop-row : goal.invariant-loop-row
invariant-loop-row l = time_each (drop l.row-index l.rows) l.self ≡ time_each l.rows l.fn.self
