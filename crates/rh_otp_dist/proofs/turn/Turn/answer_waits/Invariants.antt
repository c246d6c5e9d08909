use Rattle.std.proofs.Common.{◌≡◌, drop}
use Rattle.rh_otp_dist.specs.Told.{answer_waits}
use Rattle.rh_otp_dist.proofs.turn.Turn.answer_waits.Given as goal

abbrev pub invariant-loop-row : goal.invariant-loop-row
invariant-loop-row l = answer_waits l.app (drop l.row-index l.rows) l.self ≡ answer_waits l.app l.rows l.fn.self
