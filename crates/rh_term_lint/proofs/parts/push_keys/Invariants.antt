use Rattle.std.proofs.Common.{◌≡◌, ◌++◌, take}
use Rattle.rh_term_lint.specs.Findings.{of_key}
use Rattle.rh_term_lint.proofs.Entries.{of_each}
use Rattle.rh_term_lint.proofs.parts.push_keys.Given as goal

abbrev pub invariant-loop-key : goal.invariant-loop-key
invariant-loop-key l = l.found.items ≡ l.initial.found.items ++ of_each (of_key l.place) (take l.key-index l.keys)
