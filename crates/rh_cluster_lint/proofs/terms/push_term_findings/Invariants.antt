use Rattle.std.proofs.Common.{◌≡◌, ◌++◌, ◌∷◌, [], take}
use Rattle.std.specs.List.{flat_map}
use Rattle.rh_cluster_lint.specs.Lines.{lines_seen}
use Rattle.rh_cluster_lint.specs.Terms.{term_found}
use Rattle.rh_cluster_lint.proofs.terms.push_term_findings.Given as goal

abbrev pub invariant-loop-finding : goal.invariant-loop-finding
invariant-loop-finding l =
    l.found.items ≡ l.fn.found.items ++ flat_map (λ f. term_found (lines_seen l.lines) f ∷ []) (take l.finding-index l.findings)
