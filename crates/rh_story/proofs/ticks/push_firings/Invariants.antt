use Rattle.std.proofs.Common.{◌≡◌, ◌++◌, take}
use Rattle.std.specs.List.{flat_map}
use Rattle.rh_state.specs.Stored.{read}
use Rattle.rh_story.specs.LineText.{firing_lines}
use Rattle.rh_story.proofs.ticks.push_firings.Given as goal

abbrev pub invariant-loop-fired : goal.invariant-loop-fired
invariant-loop-fired l = l.text.items ≡ l.fn.text.items ++ flat_map (firing_lines (read l.state)) (take l.fired-index l.firings)
