-- The report of live nodes (ours). It tells what the report as text tells, in its order.
use Rattle.std.specs.Prelude.{ℕ, List, ◌++◌, codes}
use Rattle.rh_json_lines.specs.ClusterLines.{app_json, group_json}
use Rattle.rh_json_lines.specs.Reports.{place_json}
use Rattle.rh_json_text.specs.Json.{json_array}
use Rattle.rh_model.specs.ClusterView.{ClusterView}
use Rattle.rh_otp_report.specs.declared.calls.OpenCall.{OpenCall}
use Rattle.rh_otp_report.specs.Views.{NodeReportView, AppReportView, ReportView}
use Rattle.rh_otp_json_lines.specs.Calls.{call_json}
use Rattle.rh_otp_json_lines.specs.Nodes.{node_report_json}

-- a distributed application, and the nodes at which it runs
unfoldable pub app_report_json : ClusterView → AppReportView → List ℕ
app_report_json c r = codes "{\"name\":" ++ app_json c r.app ++ codes ",\"nodes\":" ++ group_json c r.nodes ++ codes "}"

-- a call that hasn't returned
unfoldable pub open_json : ClusterView → OpenCall → List ℕ
open_json c call = codes "{" ++ call_json c call.ask call.node call.app ++ codes "}"

-- the nodes and the distributed applications in their order, and the calls that haven't returned
unfoldable pub nodes_list : ClusterView → List NodeReportView → List ℕ
nodes_list c nodes = codes ",\"nodes\":" ++ json_array (node_report_json c) nodes

unfoldable pub apps_list : ClusterView → List AppReportView → List ℕ
apps_list c apps = codes ",\"applications\":" ++ json_array (app_report_json c) apps

unfoldable pub open_list : ClusterView → List OpenCall → List ℕ
open_list c calls = codes ",\"open\":" ++ json_array (open_json c) calls

unfoldable pub parts_json : ClusterView → ReportView → List ℕ
parts_json c r = nodes_list c r.nodes ++ apps_list c r.apps ++ open_list c r.calls

-- the report of a state behind so many steps, of so many
unfoldable pub report_json : ℕ → ℕ → ClusterView → ReportView → List ℕ
report_json cursor trail c r = place_json r.time cursor trail ++ parts_json c r ++ codes "}"
