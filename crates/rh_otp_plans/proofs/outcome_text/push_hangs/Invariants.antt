use Rattle.std.proofs.Common.{◌≡◌, ◌++◌, take}
use Rattle.std.specs.List.{flat_map}
use Rattle.std.specs.String.{string_bytes}
use Rattle.rh_otp_plans.specs.OutcomeText.{hang_lines}
use Rattle.rh_otp_plans.proofs.outcome_text.push_hangs.Given as goal

abbrev pub invariant-loop-hang : goal.invariant-loop-hang
invariant-loop-hang l = string_bytes l.text ≡ string_bytes l.fn.text ++ flat_map (hang_lines l.cluster) (take l.hang-index l.hangs)
