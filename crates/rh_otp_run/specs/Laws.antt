-- A law of runs on live nodes (ours).
use Rattle.std.specs.Prelude.{◌≡◌, ℕ, List, [], ◌∷◌, ◌++◌, Result, Ok, Err}
use Rattle.rh_model.specs.ClusterView.{ClusterView}
use Rattle.rh_cluster.specs.ClusterOf.{cluster_of}
use Rattle.rh_cluster.specs.declared.fault.ClusterFault.{ClusterFault}
use Rattle.rh_calls.specs.declared.call.Call.{Call}
use Rattle.rh_script.specs.declared.script.Line.{Line}
use Rattle.rh_script.specs.Answers.{fault_text}
use Rattle.rh_script.specs.Commands.{calls_of}
use Rattle.rh_script.specs.Lines.{cluster_text, script_lines}
use Rattle.rh_run.specs.RunText.{bad_line, end_text, lines_asked, run_end}
use Rattle.rh_manner.specs.Laws.{plain}
use Rattle.rh_otp_net.specs.declared.order.Order.{Order}
use Rattle.rh_otp_file.specs.Files.{own_files}
use Rattle.rh_otp_sim.specs.Sim.{LiveSimView, opened}
use Rattle.rh_otp_sim.specs.Calls.{made_by, reply_to}
use Rattle.rh_otp_text.specs.Replies.{reply_text}
use Rattle.rh_otp_run.specs.LiveText.{live_text, live_end}

-- the answers to commands that are made one after the other
abbrev pub answers_text : LiveSimView → List Call → List ℕ
answers_text sim [] = []
answers_text sim (call ∷ calls) = reply_text (made_by call sim) (reply_to call sim) ++ answers_text (made_by call sim) calls

-- the answers to the commands, and then the bad line
abbrev pub script_text : LiveSimView → List Line → List ℕ
script_text sim lines = answers_text sim (calls_of lines) ++ end_text (bad_line 1 lines)

-- of a cluster of this text and a script, or the fault of a text that is no cluster
abbrev pub bare_text : Order → List ℕ → List (List ℕ) → Result ClusterView ClusterFault → List ℕ
bare_text order text lines (Ok c) = script_text (opened c (own_files c text) order) (lines_asked c lines)
bare_text order text lines (Err f) = fault_text f

-- In the plain manner a run writes the answers and nothing beside them, and ends as `run` does.
abbrev pub PlainMannerIsBare : Type 0
PlainMannerIsBare = (order : Order) (bytes : List ℕ)
    → (live_text order plain bytes ≡ bare_text order (cluster_text bytes) (script_lines bytes) (cluster_of (cluster_text bytes)))
    × (live_end order plain bytes ≡ run_end bytes)
