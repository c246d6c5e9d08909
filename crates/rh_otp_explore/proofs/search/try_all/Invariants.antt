use Rattle.std.proofs.Common.{◌≡◌, ◌≤◌, ◌-◌, false, [], length}
use Rattle.rh_otp_explore.specs.Listing.{Behind, scope_of, below}
use Rattle.rh_otp_explore.specs.Tallying.{is_over, all_tallied}
use Rattle.rh_otp_explore.proofs.search.try_all.Given as goal

abbrev pub invariant-lengths : goal.invariant-lengths
invariant-lengths l = record {
  events : l.events.items ≡ [];
  short : l.length ≤ l.steps;
  tally : l.tally ≡ all_tallied l.bounds.states l.fn.tally (below (scope_of l.bounds) l.length (record { events = []; sim = l.stand }));
  all : l.tally.lists ≡ length (below (scope_of l.bounds) l.length (record { events = []; sim = l.stand }));
  left : is_over l.bounds.states l.tally ≡ false;
}

abbrev pub decreases-lengths : goal.decreases-lengths
decreases-lengths l = l.steps - l.length
