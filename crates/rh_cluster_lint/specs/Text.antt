-- All that is found in the text of a cluster file, beside its fault (ours).
use Rattle.std.specs.Prelude.{ℕ, List, [], ◌∷◌, ◌++◌, Option, Some, None, Result, Ok, Err}
use Rattle.std.specs.List.{flat_map}
use Rattle.rh_base.specs.Tree.{Tree, Trees, list_of_trees}
use Rattle.rh_model.specs.ClusterView.{ClusterView}
use Rattle.rh_terms.specs.Grammar.{terms_of}
use Rattle.rh_terms.specs.declared.fault.TermFault.{TermFault}
use Rattle.rh_term_lint.specs.Findings.{findings}
use Rattle.rh_file_lint.specs.Findings.{file_findings_of}
use Rattle.rh_findings.specs.declared.finding.Finding.{Finding}
use Rattle.rh_cluster_lint.specs.Lines.{LinesView, lines_of}
use Rattle.rh_cluster_lint.specs.Terms.{term_found}
use Rattle.rh_cluster_lint.specs.File.{file_found}

-- in a cluster, if it is one
unfoldable pub of_cluster : LinesView → Option ClusterView → List Finding
of_cluster l None = []
of_cluster l (Some c) = flat_map (λ f. file_found l c f ∷ []) (file_findings_of c)

-- in its terms, and in the cluster
unfoldable pub of_terms : List ℕ → List Tree → Option ClusterView → List Finding
of_terms bytes ts c = flat_map (λ f. term_found (lines_of bytes ts) f ∷ []) (findings ts) ++ of_cluster (lines_of bytes ts) c

-- in a text; of one that can't be read nothing
abbrev pub text_found_by : List ℕ → Option ClusterView → Result Trees TermFault → List Finding
text_found_by bytes c (Ok ts) = of_terms bytes (list_of_trees ts) c
text_found_by bytes c (Err f) = []

unfoldable pub text_found : List ℕ → Option ClusterView → List Finding
text_found bytes c = text_found_by bytes c (terms_of bytes)
