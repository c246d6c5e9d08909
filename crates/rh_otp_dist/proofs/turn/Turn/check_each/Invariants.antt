use Rattle.std.proofs.Common.{◌≡◌, drop, true, []}
use Rattle.rh_otp_dist.specs.Down.{check_each}
use Rattle.rh_otp_dist.proofs.turn.Turn.check_each.Given as goal

abbrev pub invariant-loop-row : goal.invariant-loop-row
invariant-loop-row l = check_each l.node l.is_even l.kept.items (drop l.row-index l.rows) l.self ≡ check_each l.node true [] l.rows l.fn.self
