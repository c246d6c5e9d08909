use Rattle.std.proofs.Common.{◌≡◌, drop}
use Rattle.rh_otp_controller.specs.Ending.{stop_each}
use Rattle.rh_otp_controller.proofs.turn.Turn.stop_each.Given as goal

abbrev pub invariant-loop-row : goal.invariant-loop-row
invariant-loop-row l = stop_each (drop l.row-index l.rows) l.self ≡ stop_each l.rows l.fn.self
