-- What is told of the state of live nodes (ours).
use Rattle.std.specs.Prelude.{List, Option, Some, None, slice_get}
use Rattle.std.specs.List.{filter_map}
use Rattle.std.specs.Option.{option_map}
use Rattle.rh_model.specs.ClusterView.{ClusterView}
use Rattle.rh_model.specs.declared.node.Node.{Node}
use Rattle.rh_otp_model.specs.declared.wait.OwnFile.{OwnFile}
use Rattle.rh_otp_node.specs.Live.{LiveView}
use Rattle.rh_otp_sim.specs.Sim.{LiveSimView, live_in, net_in}
use Rattle.rh_otp_system.specs.Views.{NetView}
use Rattle.rh_state.specs.Numbers.{nodes_of}
use Rattle.rh_otp_report.specs.Apps.{app_reports}
use Rattle.rh_otp_report.specs.Blocks.{block_at, boot_at}
use Rattle.rh_otp_report.specs.Forbidden.{forbidden_at}
use Rattle.rh_otp_report.specs.NodeTimers.{timers_at}
use Rattle.rh_otp_report.specs.OpenCalls.{open_calls}
use Rattle.rh_otp_report.specs.Rows.{running_at, waiting_at, starting_at}
use Rattle.rh_otp_report.specs.Views.{NodeReportView, ReportView}

-- what is told of a node with this file
abbrev pub node_report : ClusterView → NetView → Option OwnFile → Node → LiveView → NodeReportView
node_report c net file n v = record {
  node = n;
  phase = v.phase;
  life = v.life;
  running = running_at v;
  waiting = waiting_at v;
  forbidden = forbidden_at c file n v;
  starting = starting_at v;
  block = block_at v net.locks;
  boot = boot_at v c n;
  timers = timers_at v n net.timers;
}

-- what is told of the node of this number, if there is one
abbrev pub node_told : LiveSimView → NetView → Node → Option NodeReportView
node_told sim net n = option_map (λ v. node_report sim.cluster net (slice_get sim.files n.0) n v) (live_in sim n)

-- what is told of each node, in the order of the file
abbrev pub node_reports : LiveSimView → NetView → List NodeReportView
node_reports sim net = filter_map (node_told sim net) (nodes_of sim.cluster)

-- all that is told
unfoldable pub report_of : LiveSimView → ReportView
report_of sim = record {
  time = (net_in sim).clock;
  nodes = node_reports sim (net_in sim);
  apps = app_reports sim;
  calls = open_calls sim (net_in sim).calls;
}
