-- Rehearsals each of whose commands ends alike report the same by every order of messages.
use Rattle.std.specs.Prelude.{◌≡◌, ◌<◌, ℕ, List, length}
use Rattle.rh_model.specs.ClusterView.{ClusterView}
use Rattle.rh_calls.specs.declared.call.Call.{Call}
use Rattle.rh_otp_model.specs.declared.wait.OwnFile.{OwnFile}
use Rattle.rh_otp_net.specs.declared.order.Order.{Order}
use Rattle.rh_otp_report.specs.Report.{report_of}
use Rattle.rh_otp_sim.specs.Laws.{behind}
use Rattle.rh_otp_sim.specs.Sim.{LiveSimView, opened, at_step_of}
use Rattle.rh_otp_text.specs.Replies.{seen_text}
use Rattle.rh_otp_rehearsals.specs.Rehearsals.{EachEndsAlike}

-- what is told of the state is the same, and so is its text, which a look at it is answered by
pub record ReportTheSame (one other : LiveSimView) : Type 0 where
  pub report : report_of one ≡ report_of other
  pub text : seen_text one ≡ seen_text other

-- now, and with any number of steps done
pub record AlwaysReportTheSame (one other : LiveSimView) : Type 0 where
  pub now : ReportTheSame one other
  pub each : (k : ℕ) → k < length one.history.states → ReportTheSame (at_step_of k one) (at_step_of k other)

-- The same calls to new simulations of a cluster that take messages in different orders.
abbrev pub ReportsAreTheSame : Type 0
ReportsAreTheSame = (cluster : ClusterView) (files : List OwnFile) (one other : Order) (calls : List Call)
    → EachEndsAlike calls (opened cluster files one)
    → AlwaysReportTheSame (behind calls (opened cluster files one)) (behind calls (opened cluster files other))
