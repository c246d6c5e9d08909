-- Distributed applications that newly run at several nodes, by the reports of live nodes before a step and behind it (ours).
use Rattle.std.specs.Prelude.{ℕ, List, [], ◌∷◌, ◌++◌, codes, length, nat_lt, Bool, not, ◌&&◌, Some, None, if◌then◌else◌}
use Rattle.std.specs.List.{flat_map, list_any}
use Rattle.rh_model.specs.ClusterView.{ClusterView}
use Rattle.rh_model.specs.declared.node.App.{App}
use Rattle.rh_state.specs.Numbers.{same_app}
use Rattle.rh_calls.specs.Report.{app_word}
use Rattle.rh_findings.specs.declared.finding.Finding.{Finding}
use Rattle.rh_findings.specs.declared.finding.Kind.TheVariants.{Warning}
use Rattle.rh_otp_report.specs.Views.{AppReportView}
use Rattle.rh_otp_text.specs.ReportText.{place_words}

-- an application runs at several nodes
abbrev pub is_twice : AppReportView → Bool
is_twice r = nat_lt 1 (length r.nodes)

-- this one does, by these reports
abbrev pub was_twice : List AppReportView → App → Bool
was_twice before a = list_any (λ r. same_app r.app a && is_twice r) before

-- the warning on line k: the application, and the nodes
unfoldable pub runs_twice : ℕ → List ℕ → List ℕ → Finding
runs_twice k app places = record {
  line = Some k;
  kind = Warning;
  text = codes "runs_twice: " ++ (app ++ (codes " runs at several nodes:" ++ places));
  path = None;
}

-- where it does so behind a step, and didn't by the reports before it
abbrev pub new_twice : ClusterView → ℕ → List AppReportView → AppReportView → List Finding
new_twice c k before r =
    if is_twice r && not (was_twice before r.app) then runs_twice k (app_word c r.app) (flat_map (place_words c) r.nodes) ∷ [] else []

-- of each application
abbrev pub all_new_twice : ClusterView → ℕ → List AppReportView → List AppReportView → List Finding
all_new_twice c k before after = flat_map (new_twice c k before) after
