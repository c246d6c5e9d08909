use Rattle.std.proofs.Common.{◌≡◌, ◌++◌, ◌∷◌, [], take}
use Rattle.std.specs.List.{flat_map}
use Rattle.rh_script_lint.specs.Steps.{step_found}
use Rattle.rh_script_lint.proofs.steps.push_found.Given as goal

abbrev pub invariant-loop-finding : goal.invariant-loop-finding
invariant-loop-finding l =
    l.found.items ≡ l.fn.found.items ++ flat_map (λ f. step_found l.cluster l.number f ∷ []) (take l.finding-index l.findings)
