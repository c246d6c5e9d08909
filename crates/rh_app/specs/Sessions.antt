-- What a run of sessions may write for the bytes that it reads, and how it ends (ours). Which of the histories of the
-- commands it is, the threads decide.
use Rattle.std.specs.Prelude.{◌≡◌, ℕ, List, Bool, Option, Some, None, Result, Ok, Err}
use Rattle.rh_model.specs.ClusterView.{ClusterView}
use Rattle.rh_cluster.specs.ClusterOf.{cluster_of}
use Rattle.rh_cluster.specs.declared.fault.ClusterFault.{ClusterFault}
use Rattle.rh_rules.specs.declared.pick.Pick.{Pick}
use Rattle.rh_room.specs.declared.pass.Entry.{Entry}
use Rattle.rh_script.specs.declared.session_lines.Command.{Command}
use Rattle.rh_script.specs.Lines.{cluster_text, script_lines}
use Rattle.rh_script.specs.Answers.{fault_text, bad_text}
use Rattle.rh_run.specs.declared.fault.Told.{Told}
use Rattle.rh_run.specs.declared.fault.Told.TheVariants as told
use Rattle.rh_devices.specs.declared.fault.WriteFault.{WriteFault}
use Rattle.rh_app.specs.declared.fault.SessionsFault.{SessionsFault}
use Rattle.rh_app.specs.declared.fault.SessionsFault.TheVariants as sessions
use Rattle.rh_devices.specs.declared.watched.Watched.{Watched}
use Rattle.rh_run.specs.RunText.{Wrote}
use Rattle.rh_app.specs.Histories.{session_lines_asked, commands_of, bad_session_line, IsHistory, history_text, last_state}

-- a bad line alone is told; else the text is that of some history of the commands
abbrev pub ScriptMayGive : ClusterView → Pick → List Command → Option ℕ → List ℕ → Option Told → Type 0
ScriptMayGive c pick commands (Some k) text owed = (text ≡ bad_text k) × (owed ≡ Some (told.BadLine k))
ScriptMayGive c pick commands None text owed =
    (log : List Entry) × IsHistory c pick commands log × (text ≡ history_text c log (last_state c pick log)) × (owed ≡ None)

abbrev pub MayGiveOver : Pick → List (List ℕ) → Result ClusterView ClusterFault → List ℕ → Option Told → Type 0
MayGiveOver pick lines (Ok c) text owed =
    ScriptMayGive c pick (commands_of (session_lines_asked c lines)) (bad_session_line 1 0 (session_lines_asked c lines)) text owed
MayGiveOver pick lines (Err f) text owed = (text ≡ fault_text f) × (owed ≡ Some (told.Cluster f))

-- for these bytes, this text may be written, which tells this fault at its end, or none
unfoldable pub MayGive : Pick → List ℕ → List ℕ → Option Told → Type 0
MayGive pick bytes text owed = MayGiveOver pick (script_lines bytes) (cluster_of (cluster_text bytes)) text owed

-- these are the lines of commands, and no others
abbrev pub AskOver : List (List ℕ) → Result ClusterView ClusterFault → Type 0
AskOver lines (Ok c) = bad_session_line 1 0 (session_lines_asked c lines) ≡ None
AskOver lines (Err f) = ⊥

-- these bytes describe a cluster, and have no bad line: only of them may threads make no one history
unfoldable pub AskHistory : List ℕ → Type 0
AskHistory bytes = AskOver (script_lines bytes) (cluster_of (cluster_text bytes))

-- behind the reading: one of the texts was written whole, or a front of it
abbrev pub OneWritten : {K : Type 0} → (K → K → List ℕ → Type 0) → (K → K → Type 0) → (List ℕ → Option Told → Type 0)
    → Result (Option Told) WriteFault → Watched K → Watched K → Type 0
OneWritten takes fails may result old new = (text : List ℕ) × (owed : Option Told) × may text owed × Wrote takes fails result text owed old new

-- or the threads made no one history, which they may where `torn` holds, and nothing was written
abbrev pub WroteOne : {K : Type 0} → (K → K → List ℕ → Type 0) → (K → K → Type 0) → (List ℕ → Option Told → Type 0) → Type 0
    → Result (Option Told) SessionsFault → Watched K → Watched K → Type 0
WroteOne takes fails may torn (Ok said) old new = OneWritten takes fails may (Ok said) old new
WroteOne takes fails may torn (Err (sessions.Write f)) old new = OneWritten takes fails may (Err f) old new
WroteOne takes fails may torn (Err sessions.Room) old new = torn × (new ≡ old)
