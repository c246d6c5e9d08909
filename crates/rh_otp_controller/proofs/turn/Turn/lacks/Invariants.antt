use Rattle.std.proofs.Common.{◌≡◌, drop, find, not}
use Rattle.rh_otp_model.specs.Rows.{has_row}
use Rattle.rh_otp_controller.specs.Starting.{has_need, lacks}
use Rattle.rh_otp_controller.proofs.turn.Turn.lacks.Given as goal

abbrev pub invariant-loop-dep : goal.invariant-loop-dep
invariant-loop-dep g l =
    find (λ d. not (has_need (λ b. has_row b l.rows) l.self d)) (drop l.dep-index l.dep-items) ≡ lacks (λ b. has_row b l.rows) l.self l.fn.app
