use Rattle.std.proofs.Common.{◌≡◌, ◌++◌, take}
use Rattle.std.specs.List.{flat_map}
use Rattle.rh_json_text.specs.Json.{behind_comma}
use Rattle.rh_otp_json_lines.specs.Nodes.{running_json}
use Rattle.rh_otp_json_lines.proofs.rows.push_each_running.Given as goal

abbrev pub invariant-loop-row : goal.invariant-loop-row
invariant-loop-row l = l.out.items ≡ l.fn.out.items ++ flat_map (behind_comma (running_json l.cluster)) (take l.row-index l.rows)
