-- What a run on live nodes writes as JSON for the bytes that it reads, and how it ends (ours).
use Rattle.std.specs.Prelude.{◌≡◌, ℕ, ◌+◌, List, [], ◌∷◌, ◌++◌, false, Option, Some, None, Result, Ok, Err}
use Rattle.rh_calls.specs.declared.call.Call.{Call}
use Rattle.rh_cluster.specs.ClusterOf.{cluster_of}
use Rattle.rh_cluster.specs.declared.fault.ClusterFault.{ClusterFault}
use Rattle.rh_devices.specs.declared.fault.WriteFault.{WriteFault}
use Rattle.rh_devices.specs.declared.watched.Watched.{Watched}
use Rattle.rh_devices.specs.Devices.{Passed}
use Rattle.rh_json.specs.RunJson.{Asked, asked_in, end_json}
use Rattle.rh_json_lines.specs.ClusterLines.{cluster_line, fault_line}
use Rattle.rh_model.specs.ClusterView.{ClusterView}
use Rattle.rh_otp_file.specs.Files.{own_files}
use Rattle.rh_otp_json_lines.specs.Replies.{reply_line}
use Rattle.rh_otp_net.specs.declared.order.Order.{Order}
use Rattle.rh_otp_sim.specs.Calls.{made_by, reply_to}
use Rattle.rh_otp_sim.specs.Sim.{LiveSimView, opened}
use Rattle.rh_run.specs.declared.fault.Told.{Told}
use Rattle.rh_run.specs.RunText.{bad_line, lines_asked, run_end, Wrote}
use Rattle.rh_script.specs.Lines.{cluster_text, script_lines}

-- the line of a command that is given to live nodes
abbrev pub answer_line : LiveSimView → ℕ → List ℕ → Call → List ℕ
answer_line sim number line call = reply_line (made_by call sim) number line (reply_to call sim)

-- the lines of commands that are made one after the other
abbrev pub answer_lines : LiveSimView → List Asked → List ℕ
answer_lines sim [] = []
answer_lines sim (a ∷ others) = answer_line sim a.number a.line a.call ++ answer_lines (made_by a.call sim) others

-- the lines of the commands, and then the bad line
abbrev pub script_json : ClusterView → LiveSimView → ℕ → List (List ℕ) → List ℕ
script_json c sim number lines = answer_lines sim (asked_in c number lines) ++ end_json (bad_line number (lines_asked c lines))

-- the text for a cluster of this text and a script, or for the fault of a text that is no cluster
abbrev pub json_over : Order → List ℕ → List (List ℕ) → Result ClusterView ClusterFault → List ℕ
json_over order text lines (Ok c) = cluster_line c ++ script_json c (opened c (own_files c text) order) 1 lines
json_over order text lines (Err f) = fault_line f

-- what is written, where messages are taken in this order
unfoldable pub live_json : Order → List ℕ → List ℕ
live_json order bytes = json_over order (cluster_text bytes) (script_lines bytes) (cluster_of (cluster_text bytes))

-- what a run on live nodes owes: how it ends is how one ends that writes lines
abbrev pub OwesLiveJson : Order → List ℕ → List ℕ → Option Told → Type 0
OwesLiveJson order bytes text owed = (text ≡ live_json order bytes) × (owed ≡ run_end bytes)

-- ---- how it is written

-- one line was answered, and the other lines are left; or the run ends there
abbrev pub Turns : {K : Type 0} → (K → K → List ℕ → Type 0) → (K → K → Type 0) → Result (Option ℕ) WriteFault
    → ClusterView → LiveSimView → LiveSimView → ℕ → List ℕ → List (List ℕ) → Watched K → Watched K → Type 0
Turns takes fails (Ok None) c sim later k line lines old new =
    (piece : List ℕ) × Passed takes old.inner new.inner piece × (script_json c sim k (line ∷ lines) ≡ piece ++ script_json c later (k + 1) lines)
    × (bad_line k (lines_asked c (line ∷ lines)) ≡ bad_line (k + 1) (lines_asked c lines)) × (new.failed ≡ false)
Turns takes fails result c sim later k line lines old new =
    Wrote takes fails result (script_json c sim k (line ∷ lines)) (bad_line k (lines_asked c (line ∷ lines))) old new
