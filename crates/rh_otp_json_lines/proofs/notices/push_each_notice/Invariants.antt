use Rattle.std.proofs.Common.{◌≡◌, ◌++◌, take}
use Rattle.std.specs.List.{flat_map}
use Rattle.rh_json_text.specs.Json.{behind_comma}
use Rattle.rh_otp_json_lines.specs.Notices.{notice_json}
use Rattle.rh_otp_json_lines.proofs.notices.push_each_notice.Given as goal

abbrev pub invariant-loop-line : goal.invariant-loop-line
invariant-loop-line l = l.out.items ≡ l.fn.out.items ++ flat_map (behind_comma (notice_json l.cluster)) (take l.line-index l.lines)
