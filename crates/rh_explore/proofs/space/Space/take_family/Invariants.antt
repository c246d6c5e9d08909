use Rattle.std.proofs.Common.{◌≡◌, ◌≤◌, ◌+◌, [], length, map, drop}
use Rattle.rh_state.specs.Stored.{read}
use Rattle.rh_explore.specs.Exploring.{scope_of}
use Rattle.rh_explore.specs.Families.{child_by}
use Rattle.rh_explore.specs.Kept.{seen_in, IsKept, IsFrontOf}
use Rattle.rh_explore.specs.Spaces.{IsUnderWay}
use Rattle.rh_explore.specs.Workers.{IsIdle}
use Rattle.rh_explore.proofs.space.Space.take_family.Given as goal

abbrev pub invariant-events : goal.invariant-events
invariant-events l = record {
  same : l.event-items ≡ l.fn.family.events.items;
  state : l.state ≡ l.fn.family.state.value;
  idle : IsIdle l.worker;
  entered : l.worker.entered.edits.items ≡ [];
  kept : IsKept (scope_of l.search) l.search.bounds l.search.asks.now l.self;
  under_way : IsUnderWay (scope_of l.search) l.search.bounds (seen_in l.search l.self) l.front.next;
  front : IsFrontOf l.search l.self l.front (map (child_by l.search.pick (read l.fn.family.state.value)) (drop l.event-index l.fn.family.events.items));
  next : l.front.next ≡ l.fn.front.next + l.event-index;
  few : l.event-index ≤ length l.fn.family.events.items;
}
