use Rattle.std.proofs.Common.{◌≡◌, ◌++◌, take, map}
use Rattle.std.specs.List.{flat_map}
use Rattle.rh_rules.specs.declared.notice.Notice.{Notice}
use Rattle.rh_json_lines.specs.Notices.{notice_json}
use Rattle.rh_json_text.specs.Json.{behind_comma}
use Rattle.rh_json_lines.proofs.notices.push_each_notice.Given as goal

abbrev pub invariant-loop-notice : goal.invariant-loop-notice
invariant-loop-notice l = l.out.items ≡ l.fn.out.items ++ flat_map (behind_comma (notice_json l.cluster)) (map (λ (n : Notice). (l.time, n)) (take l.notice-index l.notices))
