-- What a story of live nodes writes for the bytes that it reads: the script again, with what came of each command (ours).
use Rattle.std.specs.Prelude.{◌≡◌, ℕ, List, [], ◌++◌, Bool, Option}
use Rattle.rh_model.specs.ClusterView.{ClusterView}
use Rattle.rh_cluster.specs.ClusterOf.{cluster_of}
use Rattle.rh_calls.specs.declared.call.Call.{Call}
use Rattle.rh_run.specs.declared.fault.Told.{Told}
use Rattle.rh_run.specs.RunText.{run_end}
use Rattle.rh_script.specs.Lines.{raw_lines, cluster_text}
use Rattle.rh_story.specs.LineText.{answer_lines}
use Rattle.rh_story.specs.StoryText.{story_by}
use Rattle.rh_story.specs.Telling.{Telling}
use Rattle.rh_otp_net.specs.declared.order.Order.{Order}
use Rattle.rh_otp_file.specs.Files.{own_files}
use Rattle.rh_otp_sim.specs.Calls.{made_by, reply_to}
use Rattle.rh_otp_sim.specs.Sim.{LiveSimView, opened}
use Rattle.rh_otp_report.specs.Report.{report_of}
use Rattle.rh_otp_text.specs.Replies.{reply_text}
use Rattle.rh_otp_story.specs.Hanging.{hanging_text, new_lines}

-- what hangs in a simulation
abbrev pub hanging_in : LiveSimView → List ℕ
hanging_in sim = hanging_text sim.cluster (report_of sim)

-- behind a command stand the lines of its answer as in a run on live nodes, and then what newly hangs; behind the last line nothing
abbrev pub live : Telling LiveSimView
live = record {
  cluster = λ sim. sim.cluster;
  told = λ sim call. answer_lines (reply_text (made_by call sim) (reply_to call sim)) ++ new_lines (hanging_in sim) (hanging_in (made_by call sim));
  behind = λ sim call. made_by call sim;
  ending = λ lack sim. [];
}

-- live nodes of a cluster of this text, with messages taken in this order; none has begun
abbrev pub live_nodes : Order → List ℕ → ClusterView → LiveSimView
live_nodes order text c = opened c (own_files c text) order

-- what is written
unfoldable pub live_story_text : Order → Bool → List ℕ → List ℕ
live_story_text order whole bytes =
    story_by live (live_nodes order (cluster_text bytes)) whole (raw_lines bytes) (cluster_of (cluster_text bytes))

-- what a story of live nodes owes: it ends as a run by the manual's rules does
abbrev pub OwesLiveStory : Order → Bool → List ℕ → List ℕ → Option Told → Type 0
OwesLiveStory order whole bytes text owed = (text ≡ live_story_text order whole bytes) × (owed ≡ run_end bytes)
