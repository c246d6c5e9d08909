use Rattle.std.proofs.Common.{◌≡◌, drop}
use Rattle.rh_otp_controller.specs.Starting.{reply_each}
use Rattle.rh_otp_controller.proofs.turn.Turn.reply_each.Given as goal

abbrev pub invariant-loop-row : goal.invariant-loop-row
invariant-loop-row l = reply_each l.app l.outcome (drop l.row-index l.rows) l.self ≡ reply_each l.app l.outcome l.rows l.fn.self
