use Rattle.std.proofs.Common.{◌≡◌, ◌++◌, take}
use Rattle.std.specs.List.{flat_map}
use Rattle.rh_json_lines.specs.Reports.{timer_json}
use Rattle.rh_json_text.specs.Json.{behind_comma}
use Rattle.rh_json_lines.proofs.reports.push_each_timer.Given as goal

abbrev pub invariant-loop-entry : goal.invariant-loop-entry
invariant-loop-entry l = l.out.items ≡ l.fn.out.items ++ flat_map (behind_comma (timer_json l.cluster)) (take l.entry-index l.timers)
