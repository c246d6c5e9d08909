use Rattle.std.proofs.Common.{◌≡◌, ◌++◌, take}
use Rattle.std.specs.List.{flat_map}
use Rattle.rh_step.specs.Firings.{FiringView}
use Rattle.rh_json_text.specs.Json.{behind_comma}
use Rattle.rh_json_lines.specs.Notices.{notice_json, timed}
use Rattle.rh_json_lines.proofs.notices.push_each_fired.Given as goal

abbrev pub invariant-loop-timer : goal.invariant-loop-timer
invariant-loop-timer l =
    l.out.items ≡ l.fn.out.items ++ flat_map (λ (f : FiringView). flat_map (behind_comma (notice_json l.cluster)) (timed f)) (take l.timer-index l.fired)
