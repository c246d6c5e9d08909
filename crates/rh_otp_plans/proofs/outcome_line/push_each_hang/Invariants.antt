use Rattle.std.proofs.Common.{◌≡◌, ◌++◌, take}
use Rattle.std.specs.List.{flat_map}
use Rattle.rh_json_text.specs.Json.{behind_comma}
use Rattle.rh_otp_plans.specs.OutcomeJson.{hang_json}
use Rattle.rh_otp_plans.proofs.outcome_line.push_each_hang.Given as goal

abbrev pub invariant-loop-hang : goal.invariant-loop-hang
invariant-loop-hang l = l.out.items ≡ l.fn.out.items ++ flat_map (behind_comma (hang_json l.cluster)) (take l.hang-index l.hangs)
