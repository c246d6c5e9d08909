use Rattle.std.proofs.Common.{◌≡◌, ◌≤◌, false, length, drop}
use Rattle.std.specs.List.{list_any}
use Rattle.rh_otp_net.specs.Links.{is_between}
use Rattle.rh_otp_net.proofs.links.Links.are_linked.Given as goal

abbrev pub invariant-loop-at : goal.invariant-loop-at
invariant-loop-at l = record {
  within : l.at ≤ length l.links;
  none_behind : list_any (is_between l.one l.two) (drop l.at l.links) ≡ false;
}
