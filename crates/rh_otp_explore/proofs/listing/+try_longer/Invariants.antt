use Rattle.std.proofs.Common.{◌≡◌, ◌-◌, take}
use Rattle.std.specs.List.{flat_map, filter_map}
use Rattle.rh_otp_explore.specs.Listing.{Behind, scope_of, next, level}
use Rattle.rh_otp_explore.specs.Tallying.{all_tallied}
use Rattle.rh_otp_explore.proofs.listing.+try_longer.Given as goal

abbrev pub decreases-try_longer : goal.decreases-try_longer
decreases-try_longer l = l.left

abbrev pub invariant-loop-may : goal.invariant-loop-may
invariant-loop-may l = record {
  events : l.events.items ≡ l.fn.events.items;
  tally : l.tally ≡ all_tallied l.bounds.states l.fn.tally
      (flat_map (level (scope_of l.bounds) (l.left - 1))
      (filter_map (next (scope_of l.bounds) (record { events = l.fn.events.items; sim = l.stand })) (take l.may-index l.bounds.moves.now)));
}
