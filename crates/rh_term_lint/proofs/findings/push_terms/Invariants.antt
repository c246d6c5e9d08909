use Rattle.std.proofs.Common.{◌≡◌, ◌++◌, map, take}
use Rattle.std.specs.List.{flat_map, enumerate_from}
use Rattle.rh_base.specs.Tree.{tree_of}
use Rattle.rh_term_lint.specs.Findings.{of_term}
use Rattle.rh_term_lint.proofs.findings.push_terms.Given as goal

abbrev pub invariant-loop-place : goal.invariant-loop-place
invariant-loop-place l =
    l.found.items ≡ l.initial.found.items ++ flat_map (λ at. of_term at.0 at.1) (enumerate_from 0 (map tree_of (take l.place l.terms)))
