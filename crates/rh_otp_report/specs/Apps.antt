-- Where distributed applications run (ours).
use Rattle.std.specs.Prelude.{List, ◌&&◌, filter, Bool, false, Option, Some, None, if◌then◌else◌}
use Rattle.std.specs.List.{filter_map}
use Rattle.rh_model.specs.declared.node.App.{App}
use Rattle.rh_model.specs.declared.node.Node.{Node}
use Rattle.rh_otp_model.specs.Rows.{keyfind}
use Rattle.rh_otp_node.specs.Live.{LiveView, is_up}
use Rattle.rh_otp_sim.specs.Sim.{LiveSimView, live_in}
use Rattle.rh_otp_sim.specs.Waiting.{is_here}
use Rattle.rh_rules.specs.Course.{is_local}
use Rattle.rh_state.specs.Numbers.{nodes_of, apps_of}
use Rattle.rh_otp_report.specs.Views.{AppReportView}

abbrev pub runs_by : Option LiveView → App → Bool
runs_by None a = false
runs_by (Some v) a = is_up v && is_here (keyfind a v.controller.running)

-- does the application run at the node?
abbrev pub runs_at : LiveSimView → App → Node → Bool
runs_at sim a n = runs_by (live_in sim n) a

-- the nodes at which it runs, in the order of the file
abbrev pub nodes_with : LiveSimView → App → List Node
nodes_with sim a = filter (runs_at sim a) (nodes_of sim.cluster)

-- what is told of an application, if it is distributed
abbrev pub app_report : LiveSimView → App → Option AppReportView
app_report sim a = if is_local sim.cluster a then None else Some (record { app = a; nodes = nodes_with sim a })

-- the distributed applications, in the order of the file
abbrev pub app_reports : LiveSimView → List AppReportView
app_reports sim = filter_map (app_report sim) (apps_of sim.cluster)
