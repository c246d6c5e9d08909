use Rattle.std.proofs.Common.{◌≡◌, ◌++◌, take}
use Rattle.std.specs.List.{flat_map}
use Rattle.rh_otp_explore_text.specs.FoundText.{asked_text}
use Rattle.rh_otp_explore_text.proofs.telling.push_all_asked.Given as goal

abbrev pub invariant-loop-asked : goal.invariant-loop-asked
invariant-loop-asked l = l.text.items ≡ l.fn.text.items ++ flat_map (asked_text l.cluster) (take l.asked-index l.all)
