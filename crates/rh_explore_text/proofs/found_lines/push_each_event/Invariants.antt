use Rattle.std.proofs.Common.{◌≡◌, ◌++◌, take}
use Rattle.std.specs.List.{flat_map}
use Rattle.rh_json_text.specs.Json.{behind_comma}
use Rattle.rh_explore_text.specs.FoundLines.{event_json}
use Rattle.rh_explore_text.proofs.found_lines.push_each_event.Given as goal

abbrev pub invariant-loop-event : goal.invariant-loop-event
invariant-loop-event l = l.out.items ≡ l.fn.out.items ++ flat_map (behind_comma (event_json l.cluster)) (take l.event-index l.events)
