use Rattle.std.proofs.Common.{[], ◌-◌, max}
use Rattle.rh_explore.specs.Exploring.{scope_of}
use Rattle.rh_explore.specs.Kept.{seen_in, IsKept, IsFrontOf}
use Rattle.rh_explore.specs.Spaces.{IsUnderWay}
use Rattle.rh_explore.proofs.space.find_together.Given as goal

abbrev pub invariant-turns : goal.invariant-turns
invariant-turns g l = record {
  kept : IsKept (scope_of l.search) l.search.bounds l.search.asks.now l.space;
  under_way : IsUnderWay (scope_of l.search) l.search.bounds (seen_in l.search l.space) l.front.next;
  front : IsFrontOf l.search l.space l.front [];
}

abbrev pub decreases-turns : goal.decreases-turns
decreases-turns g l = max 1 l.search.bounds.states - l.front.next
