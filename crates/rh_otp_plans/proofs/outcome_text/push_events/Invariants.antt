use Rattle.std.proofs.Common.{◌≡◌, ◌++◌, take}
use Rattle.std.specs.List.{flat_map}
use Rattle.std.specs.String.{string_bytes}
use Rattle.rh_otp_plans.specs.OutcomeText.{event_line}
use Rattle.rh_otp_plans.proofs.outcome_text.push_events.Given as goal

abbrev pub invariant-loop-answer : goal.invariant-loop-answer
invariant-loop-answer l = string_bytes l.text ≡ string_bytes l.fn.text ++ flat_map (event_line l.cluster) (take l.answer-index l.answers)
