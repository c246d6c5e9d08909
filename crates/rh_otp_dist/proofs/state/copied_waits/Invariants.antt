use Rattle.std.proofs.Common.{◌≡◌, take}
use Rattle.rh_otp_dist.proofs.state.copied_waits.Given as goal

abbrev pub invariant-loop-row : goal.invariant-loop-row
invariant-loop-row l = l.copies.items ≡ take l.row-index l.rows
