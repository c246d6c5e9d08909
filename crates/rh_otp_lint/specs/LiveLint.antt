-- What lint writes for the bytes that it reads where the steps are those of live nodes, and how it ends (ours). What is found in the text
-- of a cluster and in the lines as such, and how findings are listed, is lint's by the manual's rules.
use Rattle.std.specs.Prelude.{◌≡◌, ℕ, List, ◌++◌, Option, Result, Ok, Err, Some}
use Rattle.rh_model.specs.ClusterView.{ClusterView}
use Rattle.rh_asked.specs.declared.manner.LintManner.{LintManner}
use Rattle.rh_cluster.specs.ClusterOf.{cluster_of}
use Rattle.rh_cluster.specs.declared.fault.ClusterFault.{ClusterFault}
use Rattle.rh_cluster_lint.specs.Text.{text_found}
use Rattle.rh_findings.specs.declared.finding.Finding.{Finding}
use Rattle.rh_findings.specs.Order.{IsListed}
use Rattle.rh_findings.specs.Report.{is_clean}
use Rattle.rh_line_lint.specs.Lines.{of_lines}
use Rattle.rh_lint.specs.LintText.{first_line, of_fault, list_text, lint_end}
use Rattle.rh_run.specs.declared.fault.Told.{Told}
use Rattle.rh_script.specs.Lines.{cluster_text, script_lines}
use Rattle.rh_otp_file.specs.Files.{own_files}
use Rattle.rh_otp_net.specs.declared.order.Order.{Order}
use Rattle.rh_otp_sim.specs.Sim.{opened}
use Rattle.rh_otp_lint.specs.LiveSteps.{of_live_steps}

-- in a cluster with a script, of which the first line has number k: what the text shows, each line, and each step on live nodes whose
-- own files this text tells, with messages taken in this order
abbrev pub of_live_script : Order → List ℕ → ℕ → List (List ℕ) → ClusterView → List Finding
of_live_script order text k lines c =
    text_found text (Some c) ++ (of_lines c k lines ++ of_live_steps (opened c (own_files c text) order) k lines)

-- or in a text that is no cluster
abbrev pub found_over : Order → List ℕ → ℕ → List (List ℕ) → Result ClusterView ClusterFault → List Finding
found_over order text k lines (Ok c) = of_live_script order text k lines c
found_over order text k lines (Err f) = of_fault text f

-- in an input
unfoldable pub found_in_live : List ℕ → Order → List Finding
found_in_live bytes order =
    found_over order (cluster_text bytes) (first_line bytes) (script_lines bytes) (cluster_of (cluster_text bytes))

-- what lint owes of live nodes: all that is found, and nothing else, in its order. Nothing is left out behind a step that hangs, so `all`
-- of the manner says nothing
abbrev pub OwesLiveLint : LintManner → Order → List ℕ → List ℕ → Option Told → Type 0
OwesLiveLint manner order bytes text owed =
    (listed : List Finding) × IsListed (found_in_live bytes order) listed × (text ≡ list_text manner.json listed)
    × (owed ≡ lint_end (is_clean manner.strict (found_in_live bytes order)))
