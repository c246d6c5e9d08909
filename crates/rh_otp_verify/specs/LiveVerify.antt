-- What a verification on live nodes writes for the bytes that it reads, and how it ends (ours).
use Rattle.std.specs.Prelude.{◌≡◌, ℕ, List, Option}
use Rattle.rh_model.specs.ClusterView.{ClusterView}
use Rattle.rh_run.specs.declared.fault.Told.{Told}
use Rattle.rh_script.specs.Lines.{cluster_text}
use Rattle.rh_otp_net.specs.declared.order.Order.{Order}
use Rattle.rh_otp_file.specs.Files.{own_files}
use Rattle.rh_otp_sim.specs.Sim.{LiveSimView, opened}
use Rattle.rh_otp_sim.specs.Calls.{made_by, reply_to}
use Rattle.rh_otp_report.specs.Report.{report_of}
use Rattle.rh_otp_text.specs.Replies.{reply_text}
use Rattle.rh_otp_text.specs.ReportText.{report_text}
use Rattle.rh_verify.specs.Rules.{Rules}
use Rattle.rh_verify.specs.VerifyText.{verified_by, verified_end_by}

-- live nodes answer as in a run on them, and their report is the one that such a run shows
abbrev pub live : Rules LiveSimView
live = record {
  cluster = λ sim. sim.cluster;
  answer = λ sim call. reply_text (made_by call sim) (reply_to call sim);
  behind = λ sim call. made_by call sim;
  report = λ sim. report_text sim.cluster (report_of sim);
}

-- live nodes of a cluster of this text, with messages taken in this order; none has begun
abbrev pub live_nodes : Order → List ℕ → ClusterView → LiveSimView
live_nodes order text c = opened c (own_files c text) order

-- what is written
unfoldable pub live_verify_text : Order → List ℕ → List ℕ
live_verify_text order bytes = verified_by live (live_nodes order (cluster_text bytes)) bytes

-- and the fault at the end, if there is one
unfoldable pub live_verify_end : Order → List ℕ → Option Told
live_verify_end order bytes = verified_end_by live (live_nodes order (cluster_text bytes)) bytes

-- what a verification on live nodes owes
abbrev pub OwesLiveVerify : Order → List ℕ → List ℕ → Option Told → Type 0
OwesLiveVerify order bytes text owed = (text ≡ live_verify_text order bytes) × (owed ≡ live_verify_end order bytes)
