use Rattle.std.proofs.Common.{◌≡◌, ◌≤◌, length, drop}
use Rattle.rh_otp_explore.specs.Due.{earliest}
use Rattle.rh_otp_explore.proofs.due.earliest.Given as goal

abbrev pub invariant-loop-index : goal.invariant-loop-index
invariant-loop-index l = record {
  within : l.index ≤ length l.dues;
  first : l.first ≡ earliest (drop l.index l.dues);
}
