-- What lint writes for the bytes that it reads, and how it ends (ours).
use Rattle.std.specs.Prelude.{◌≡◌, ℕ, ◌+◌, List, ◌∷◌, ◌++◌, length, Bool, Option, Some, None, Result, Ok, Err, if◌then◌else◌}
use Rattle.rh_model.specs.ClusterView.{ClusterView}
use Rattle.rh_cluster.specs.ClusterOf.{cluster_of}
use Rattle.rh_cluster.specs.declared.fault.ClusterFault.{ClusterFault}
use Rattle.rh_rules.specs.declared.pick.Pick.{Pick}
use Rattle.rh_trail.specs.Lone.{opened}
use Rattle.rh_script.specs.Lines.{raw_lines, cluster_text, script_lines}
use Rattle.rh_run.specs.declared.fault.Told.{Told}
use Rattle.rh_run.specs.declared.fault.Told.TheVariants as told
use Rattle.rh_findings.specs.declared.finding.Finding.{Finding}
use Rattle.rh_findings.specs.Order.{IsListed}
use Rattle.rh_findings.specs.Report.{report_text, is_clean}
use Rattle.rh_cluster_lint.specs.Told.{fault_in}
use Rattle.rh_cluster_lint.specs.Text.{text_found}
use Rattle.rh_line_lint.specs.Lines.{of_lines}
use Rattle.rh_script_lint.specs.Steps.{of_script_steps}
use Rattle.rh_asked.specs.declared.manner.LintManner.{LintManner}
use Rattle.rh_lint.specs.LintJson.{lint_json}

-- the number of the script's first line in the whole input: it stands behind the cluster's text and the line `===`
abbrev pub first_line : List ℕ → ℕ
first_line bytes = length (raw_lines (cluster_text bytes)) + 2

-- ---- what is found

-- in a text that is no cluster: its fault, and what its terms show; the script isn't looked at
abbrev pub of_fault : List ℕ → ClusterFault → List Finding
of_fault text f = fault_in text f ∷ text_found text None

-- in a cluster with a script, of which the first line has number k: what the text shows, each line, and each step
abbrev pub of_script : List ℕ → ClusterView → Pick → Bool → ℕ → List (List ℕ) → List Finding
of_script text c pick all k lines = text_found text (Some c) ++ (of_lines c k lines ++ of_script_steps all (opened c pick) k lines)

abbrev pub found_over : List ℕ → Pick → Bool → ℕ → List (List ℕ) → Result ClusterView ClusterFault → List Finding
found_over text pick all k lines (Ok c) = of_script text c pick all k lines
found_over text pick all k lines (Err f) = of_fault text f

-- in an input; of the steps up to one that hangs, or of all of them
unfoldable pub found_in : List ℕ → Pick → Bool → List Finding
found_in bytes pick all =
    found_over (cluster_text bytes) pick all (first_line bytes) (script_lines bytes) (cluster_of (cluster_text bytes))

-- ---- what is written

-- the list, as lines of JSON or not
abbrev pub list_text : Bool → List Finding → List ℕ
list_text json found = if json then lint_json found else report_text found

-- the fault that the text tells: something was found that counts
abbrev pub lint_end : Bool → Option Told
lint_end clean = if clean then None else Some told.Differs

-- what lint owes: all that is found, and nothing else, in its order
abbrev pub OwesLint : LintManner → Pick → List ℕ → List ℕ → Option Told → Type 0
OwesLint manner pick bytes text owed =
    (listed : List Finding) × IsListed (found_in bytes pick manner.all) listed × (text ≡ list_text manner.json listed)
    × (owed ≡ lint_end (is_clean manner.strict (found_in bytes pick manner.all)))
