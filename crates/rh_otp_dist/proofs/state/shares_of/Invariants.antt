use Rattle.std.proofs.Common.{◌≡◌, replicate}
use Rattle.rh_otp_dist.proofs.state.shares_of.Given as goal

abbrev pub invariant-loop-number : goal.invariant-loop-number
invariant-loop-number l = l.shares.items ≡ replicate l.number l.flags
