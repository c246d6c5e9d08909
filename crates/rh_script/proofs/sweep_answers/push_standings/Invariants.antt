use Rattle.std.proofs.Common.{◌≡◌, ◌++◌, take}
use Rattle.std.specs.List.{flat_map}
use Rattle.std.specs.String.{string_bytes}
use Rattle.rh_calls.specs.Report.{standing_line}
use Rattle.rh_script.proofs.sweep_answers.push_standings.Given as goal

abbrev pub invariant-loop-at : goal.invariant-loop-at
invariant-loop-at l = string_bytes l.text
    ≡ string_bytes l.fn.text ++ flat_map (λ at. standing_line l.cluster at.0 at.1) (take l.at-index l.standings)
