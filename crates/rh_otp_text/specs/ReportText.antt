-- The report of live nodes, as text (ours).
use Rattle.std.specs.Prelude.{ℕ, List, [], ◌∷◌, ◌++◌, codes}
use Rattle.std.specs.Fmt.{decimal}
use Rattle.std.specs.List.{flat_map}
use Rattle.rh_calls.specs.Report.{node_word, app_word}
use Rattle.rh_model.specs.ClusterView.{ClusterView}
use Rattle.rh_model.specs.declared.node.Node.{Node}
use Rattle.rh_otp_report.specs.declared.calls.OpenCall.{OpenCall}
use Rattle.rh_otp_report.specs.Views.{AppReportView, ReportView}
use Rattle.rh_otp_text.specs.Asks.{ask_words}
use Rattle.rh_otp_text.specs.Nodes.{node_lines}

abbrev pub time_line : ℕ → List ℕ
time_line time = codes "now " ++ decimal time ++ codes "\n"

abbrev pub place_words : ClusterView → Node → List ℕ
place_words c n = codes " " ++ node_word c n

-- at which nodes an application runs
abbrev pub places_words : ClusterView → List Node → List ℕ
places_words c [] = codes " nowhere"
places_words c (n ∷ nodes) = codes " running" ++ flat_map (place_words c) (n ∷ nodes)

-- a distributed application, and the nodes at which it runs
abbrev pub app_line : ClusterView → AppReportView → List ℕ
app_line c r = codes "app " ++ app_word c r.app ++ places_words c r.nodes ++ codes "\n"

-- a call that hasn't returned
abbrev pub call_line : ClusterView → OpenCall → List ℕ
call_line c call = codes "open " ++ ask_words c call.ask call.node call.app ++ codes "\n"

-- the clock, the nodes, the distributed applications, and the calls that haven't returned
unfoldable pub report_text : ClusterView → ReportView → List ℕ
report_text c r = time_line r.time ++ flat_map (node_lines c) r.nodes ++ flat_map (app_line c) r.apps ++ flat_map (call_line c) r.calls
