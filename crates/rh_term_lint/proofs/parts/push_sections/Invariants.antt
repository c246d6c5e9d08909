use Rattle.std.proofs.Common.{◌≡◌, ◌++◌, take}
use Rattle.rh_term_lint.specs.Findings.{of_section}
use Rattle.rh_term_lint.proofs.Entries.{of_each}
use Rattle.rh_term_lint.proofs.parts.push_sections.Given as goal

abbrev pub invariant-loop-section : goal.invariant-loop-section
invariant-loop-section l = l.found.items ≡ l.initial.found.items ++ of_each (of_section l.place) (take l.section-index l.sections)
