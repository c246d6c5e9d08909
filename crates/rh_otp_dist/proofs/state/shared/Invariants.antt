use Rattle.std.proofs.Common.{◌≡◌, take}
use Rattle.rh_otp_dist.proofs.state.shared.Given as goal

abbrev pub invariant-loop-flags : goal.invariant-loop-flags
invariant-loop-flags l = l.copies.items ≡ take l.flags-index l.may
