use Rattle.std.proofs.Common.{◌≡◌, ◌++◌, take}
use Rattle.std.specs.List.{flat_map}
use Rattle.rh_json_text.specs.Json.{behind_comma}
use Rattle.rh_otp_json_lines.specs.Reports.{open_json}
use Rattle.rh_otp_json_lines.proofs.reports.push_each_open.Given as goal

abbrev pub invariant-loop-call : goal.invariant-loop-call
invariant-loop-call l = l.out.items ≡ l.fn.out.items ++ flat_map (behind_comma (open_json l.cluster)) (take l.call-index l.calls)
