use Rattle.std.proofs.Common.{◌≡◌, ◌++◌, take}
use Rattle.std.specs.List.{flat_map}
use Rattle.rh_explore_text.specs.FoundText.{event_line}
use Rattle.rh_explore_text.proofs.telling.push_events.Given as goal

abbrev pub invariant-events : goal.invariant-events
invariant-events l = l.text.items ≡ l.fn.text.items ++ flat_map (event_line l.cluster) (take l.event-index l.events)
