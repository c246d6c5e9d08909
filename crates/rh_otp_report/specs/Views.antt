-- What is told of the state of live nodes, as callers see it.
use Rattle.std.specs.Prelude.{ℕ, List, Option}
use Rattle.rh_model.specs.declared.node.App.{App}
use Rattle.rh_model.specs.declared.node.Node.{Node}
use Rattle.rh_otp_node.specs.declared.node.Phase.{Phase}
use Rattle.rh_otp_report.specs.declared.block.Block.{Block}
use Rattle.rh_otp_report.specs.declared.calls.OpenCall.{OpenCall}
use Rattle.rh_otp_report.specs.declared.rows.Runs.{Runs}
use Rattle.rh_otp_report.specs.declared.rows.Waits.{Waits}
use Rattle.rh_otp_report.specs.declared.timers.NodeTimer.{NodeTimer}

-- a node: how far it is, how often it has begun, what runs there, waits there, is forbidden there and is being started, for what its
-- dist_ac and its boot script wait, and its timers
pub record NodeReportView : Type 0 where
  pub node : Node
  pub phase : Phase
  pub life : ℕ
  pub running : List Runs
  pub waiting : List Waits
  pub forbidden : List App
  pub starting : List App
  pub block : Option Block
  pub boot : Option App
  pub timers : List NodeTimer

-- a distributed application, and the nodes at which it runs
pub record AppReportView : Type 0 where
  pub app : App
  pub nodes : List Node

-- the clock in milliseconds, the nodes and the distributed applications in the order of the file, and the calls that are open
pub record ReportView : Type 0 where
  pub time : ℕ
  pub nodes : List NodeReportView
  pub apps : List AppReportView
  pub calls : List OpenCall
