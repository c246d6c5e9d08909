use Rattle.std.proofs.Common.{◌≡◌, ◌++◌, take}
use Rattle.std.specs.List.{flat_map}
use Rattle.rh_json_text.specs.Json.{behind_comma}
use Rattle.rh_otp_plans.specs.OutcomeJson.{event_json}
use Rattle.rh_otp_plans.proofs.outcome_line.push_each_event.Given as goal

abbrev pub invariant-loop-answer : goal.invariant-loop-answer
invariant-loop-answer l = l.out.items ≡ l.fn.out.items ++ flat_map (behind_comma (event_json l.cluster)) (take l.answer-index l.answers)
