use Rattle.std.proofs.Common.{◌≡◌, ◌++◌, take}
use Rattle.std.specs.List.{flat_map}
use Rattle.rh_json_text.specs.Json.{behind_comma}
use Rattle.rh_json_lines.specs.OutcomeLines.{stands_json}
use Rattle.rh_json_lines.proofs.standings.push_each_standing.Given as goal

abbrev pub invariant-loop-at : goal.invariant-loop-at
invariant-loop-at l = l.out.items ≡ l.fn.out.items ++ flat_map (behind_comma (stands_json l.cluster)) (take l.at-index l.standings)
