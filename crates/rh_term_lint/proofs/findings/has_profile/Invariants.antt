use Rattle.std.proofs.Common.{◌≡◌, map, drop}
use Rattle.rh_base.specs.Tree.{tree_of}
use Rattle.rh_term_lint.specs.Findings.{has_profile}
use Rattle.rh_term_lint.proofs.findings.has_profile.Given as goal

abbrev pub invariant-loop-term : goal.invariant-loop-term
invariant-loop-term l = has_profile (map tree_of (drop l.term-index l.terms)) ≡ has_profile (map tree_of l.terms)
