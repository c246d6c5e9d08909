use Rattle.std.proofs.Common.{◌≡◌, ◌+◌, List, length}
use Rattle.std.specs.List.{AllZip}
use Rattle.rh_state.specs.StateView.{StateView}
use Rattle.rh_explore.specs.Exploring.{scope_of}
use Rattle.rh_explore.specs.Families.{ExpandsSo}
use Rattle.rh_explore.specs.Kept.{seen_in, knowing_in, IsKept, IsKnown, IsFrontOf}
use Rattle.rh_explore.specs.Spaces.{IsUnderWay}
use Rattle.rh_explore.proofs.space.Space.take_in.Given as goal

abbrev pub invariant-expansions : goal.invariant-expansions
invariant-expansions l = record {
  kept : IsKept (scope_of l.search) l.search.bounds l.search.asks.now l.self;
  under_way : IsUnderWay (scope_of l.search) l.search.bounds (seen_in l.search l.self) l.front.next;
  known : IsKnown (knowing_in l.fn.self) l.self;
  front : (states : List StateView) × AllZip (ExpandsSo (scope_of l.search) l.search.asks.now (knowing_in l.fn.self)) states l.rest.items
      × IsFrontOf l.search l.self l.front states;
  next : l.front.next + length l.rest.items ≡ l.fn.front.next + length l.fn.expansions.items;
}

abbrev pub decreases-expansions : goal.decreases-expansions
decreases-expansions l = length l.rest.items
