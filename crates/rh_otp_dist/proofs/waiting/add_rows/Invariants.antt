use Rattle.std.proofs.Common.{◌≡◌, ◌++◌, drop}
use Rattle.rh_otp_dist.specs.Waiting.{rows_at}
use Rattle.rh_otp_dist.proofs.waiting.add_rows.Given as goal

abbrev pub invariant-loop-number : goal.invariant-loop-number
invariant-loop-number l = l.rows.items ++ rows_at l.node l.number (drop l.number l.flags) ≡ l.fn.rows.items ++ rows_at l.node 0 l.flags
