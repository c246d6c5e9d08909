use Rattle.std.proofs.Common.{◌≡◌, ◌++◌, take}
use Rattle.rh_term_lint.specs.Findings.{of_parameter}
use Rattle.rh_term_lint.proofs.Entries.{of_each}
use Rattle.rh_term_lint.proofs.parts.push_parameters.Given as goal

abbrev pub invariant-loop-parameter : goal.invariant-loop-parameter
invariant-loop-parameter l = l.found.items ≡ l.initial.found.items ++ of_each (of_parameter l.place) (take l.parameter-index l.parameters)
