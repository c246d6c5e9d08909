use Rattle.std.proofs.Common.{◌≡◌, [], ◌-◌, max}
use Rattle.rh_explore.specs.Exploring.{scope_of}
use Rattle.rh_explore.specs.Kept.{seen_in, IsKept, IsFrontOf}
use Rattle.rh_explore.specs.Spaces.{IsUnderWay}
use Rattle.rh_explore.specs.Workers.{IsIdle}
use Rattle.rh_explore.proofs.alone.find_alone.Given as goal

abbrev pub invariant-families : goal.invariant-families
invariant-families g l = record {
  kept : IsKept (scope_of l.search) l.search.bounds l.search.asks.now l.space;
  under_way : IsUnderWay (scope_of l.search) l.search.bounds (seen_in l.search l.space) l.front.next;
  front : IsFrontOf l.search l.space l.front [];
  idle : IsIdle l.worker;
  entered : l.worker.entered.edits.items ≡ [];
}

abbrev pub decreases-families : goal.decreases-families
decreases-families g l = max 1 l.search.bounds.states - l.front.next
