use Rattle.std.proofs.Common.{◌≡◌, ◌++◌, take}
use Rattle.std.specs.List.{flat_map}
use Rattle.rh_state.specs.Stored.{read}
use Rattle.rh_explore_text.specs.FoundText.{verdict_text}
use Rattle.rh_explore_text.proofs.telling.push_verdicts.Given as goal

abbrev pub invariant-verdicts : goal.invariant-verdicts
invariant-verdicts l = l.text.items ≡ l.fn.text.items ++ flat_map (verdict_text l.cluster l.pick (read l.base)) (take l.verdict-index l.verdicts)
