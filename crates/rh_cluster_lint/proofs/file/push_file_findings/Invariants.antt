use Rattle.std.proofs.Common.{◌≡◌, ◌++◌, ◌∷◌, [], take}
use Rattle.std.specs.List.{flat_map}
use Rattle.rh_cluster_lint.specs.Lines.{lines_seen}
use Rattle.rh_cluster_lint.specs.File.{file_found}
use Rattle.rh_cluster_lint.proofs.file.push_file_findings.Given as goal

abbrev pub invariant-loop-finding : goal.invariant-loop-finding
invariant-loop-finding l =
    l.found.items ≡ l.fn.found.items ++ flat_map (λ f. file_found (lines_seen l.lines) l.cluster f ∷ []) (take l.finding-index l.findings)
