use Rattle.std.proofs.Common.{◌≡◌, ◌++◌, take}
use Rattle.std.specs.List.{flat_map}
use Rattle.rh_json_text.specs.Json.{behind_comma}
use Rattle.rh_otp_json_lines.specs.Nodes.{timer_json}
use Rattle.rh_otp_json_lines.proofs.hangs.push_each_timer.Given as goal

abbrev pub invariant-loop-timer : goal.invariant-loop-timer
invariant-loop-timer l = l.out.items ≡ l.fn.out.items ++ flat_map (behind_comma (timer_json l.cluster)) (take l.timer-index l.timers)
