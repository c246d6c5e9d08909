use Rattle.std.proofs.Common.{◌≡◌, drop}
use Rattle.rh_otp_dist.specs.Sending.{answer_each}
use Rattle.rh_otp_dist.proofs.turn.Turn.answer_each.Given as goal

abbrev pub invariant-loop-row : goal.invariant-loop-row
invariant-loop-row l = answer_each l.app l.outcome (drop l.row-index l.rows) l.self ≡ answer_each l.app l.outcome l.rows l.fn.self
