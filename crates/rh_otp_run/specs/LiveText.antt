-- What a run on live nodes writes for the bytes that it reads, and how it ends (ours). What a manner prints is that of a run by the
-- manual's rules.
use Rattle.std.specs.Prelude.{◌≡◌, ℕ, ◌+◌, List, [], ◌∷◌, ◌++◌, Bool, true, false, ◌||◌, not, Option, Some, None, Result, Ok, Err}
use Rattle.rh_model.specs.ClusterView.{ClusterView}
use Rattle.rh_cluster.specs.ClusterOf.{cluster_of}
use Rattle.rh_cluster.specs.declared.fault.ClusterFault.{ClusterFault}
use Rattle.rh_calls.specs.declared.call.Call.{Call}
use Rattle.rh_devices.specs.declared.fault.WriteFault.{WriteFault}
use Rattle.rh_devices.specs.declared.watched.Watched.{Watched}
use Rattle.rh_devices.specs.Devices.{Passed, WroteFront}
use Rattle.rh_script.specs.declared.script.Line.TheVariants.{Nothing, Asks, Bad}
use Rattle.rh_script.specs.Lines.{cluster_text, script_lines}
use Rattle.rh_script.specs.Answers.{bad_text, fault_text}
use Rattle.rh_run.specs.declared.fault.Told.{Told}
use Rattle.rh_run.specs.declared.fault.Told.TheVariants as told
use Rattle.rh_run.specs.RunText.{bad_line}
use Rattle.rh_asked.specs.declared.manner.Manner.{Manner}
use Rattle.rh_manner.specs.declared.running.Turn.{Turn}
use Rattle.rh_manner.specs.declared.running.Turn.TheVariants.{Goes, Ends}
use Rattle.rh_manner.specs.MannerText.{Said, said_by, asked, echo_of, end_of}
use Rattle.rh_otp_net.specs.declared.order.Order.{Order}
use Rattle.rh_otp_file.specs.Files.{own_files}
use Rattle.rh_otp_sim.specs.declared.calls.LiveReply.{LiveReply}
use Rattle.rh_otp_sim.specs.declared.calls.LiveReply.TheVariants as reply
use Rattle.rh_otp_sim.specs.declared.lines.Answer.{Answer}
use Rattle.rh_otp_sim.specs.declared.lines.Answer.TheVariants.{Told as answered, NoAnswer}
use Rattle.rh_otp_sim.specs.declared.stepping.Outcome.{Outcome}
use Rattle.rh_otp_sim.specs.declared.stepping.Outcome.TheVariants as outcome
use Rattle.rh_otp_sim.specs.declared.verdict.Verdict.{Verdict}
use Rattle.rh_otp_sim.specs.declared.verdict.Verdict.TheVariants as verdict
use Rattle.rh_otp_sim.specs.Sim.{LiveSimView, opened}
use Rattle.rh_otp_sim.specs.Calls.{made_by, reply_to}
use Rattle.rh_otp_text.specs.Replies.{reply_text}

-- ---- what is printed

-- a command, where commands are printed, and the text of its answer
abbrev pub answered_text : Manner → List ℕ → LiveSimView → Call → List ℕ
answered_text m line sim call = echo_of m line ++ reply_text (made_by call sim) (reply_to call sim)

-- the commands with their answers, made one after the other, up to the first bad line, which is told; the first line has number k
abbrev pub said_text : Manner → LiveSimView → ℕ → List Said → List ℕ
said_text m sim k [] = []
said_text m sim k ((line, Nothing) ∷ lines) = said_text m sim (k + 1) lines
said_text m sim k ((line, Asks call) ∷ lines) = answered_text m line sim call ++ said_text m (made_by call sim) (k + 1) lines
said_text m sim k ((line, Bad) ∷ lines) = echo_of m line ++ bad_text k

-- ---- how it ends

abbrev pub is_done : Verdict → Bool
is_done verdict.Done = true
is_done v = false

-- is it `ok`?
abbrev pub is_ok : Answer → Bool
is_ok (answered v) = is_done v
is_ok NoAnswer = false

-- a step that isn't answered by `ok`: it was refused or has no end, a node has answered it by an error, or it has no answer yet
abbrev pub is_refused_outcome : Outcome → Bool
is_refused_outcome (outcome.Refused refusal) = true
is_refused_outcome outcome.Endless = true
is_refused_outcome (outcome.Done h) = not (is_ok h.answer)

abbrev pub is_refused_step : LiveReply → Bool
is_refused_step (reply.Step o) = is_refused_outcome o
is_refused_step other = false

-- is one of these commands such a step?
abbrev pub any_refused : LiveSimView → List Said → Bool
any_refused sim [] = false
any_refused sim ((line, Nothing) ∷ lines) = any_refused sim lines
any_refused sim ((line, Asks call) ∷ lines) = is_refused_step (reply_to call sim) || any_refused (made_by call sim) lines
any_refused sim ((line, Bad) ∷ lines) = false

abbrev pub said_end : Manner → LiveSimView → List Said → Option Told
said_end m sim lines = end_of m (any_refused sim lines) (bad_line 1 (asked lines))

-- ---- of a whole input

-- the text for a cluster of this text and a script, or for the fault of a text that is no cluster
abbrev pub text_over : Order → Manner → List ℕ → List (List ℕ) → Result ClusterView ClusterFault → List ℕ
text_over order m text lines (Ok c) = said_text m (opened c (own_files c text) order) 1 (said_by c lines)
text_over order m text lines (Err f) = fault_text f

-- and the fault that it tells
abbrev pub end_over : Order → Manner → List ℕ → List (List ℕ) → Result ClusterView ClusterFault → Option Told
end_over order m text lines (Ok c) = said_end m (opened c (own_files c text) order) (said_by c lines)
end_over order m text lines (Err f) = Some (told.Cluster f)

-- what is written, where messages are taken in this order
unfoldable pub live_text : Order → Manner → List ℕ → List ℕ
live_text order m bytes = text_over order m (cluster_text bytes) (script_lines bytes) (cluster_of (cluster_text bytes))

-- and the fault at the end, if there is one
unfoldable pub live_end : Order → Manner → List ℕ → Option Told
live_end order m bytes = end_over order m (cluster_text bytes) (script_lines bytes) (cluster_of (cluster_text bytes))

-- what a run on live nodes owes
abbrev pub OwesLiveRun : Order → Manner → List ℕ → List ℕ → Option Told → Type 0
OwesLiveRun order m bytes text owed = (text ≡ live_text order m bytes) × (owed ≡ live_end order m bytes)

-- ---- how it is written

-- one line was answered, and the other lines are left; or the run ends there
abbrev pub Turns : {K : Type 0} → (K → K → List ℕ → Type 0) → (K → K → Type 0) → Result Turn WriteFault
    → Manner → LiveSimView → LiveSimView → ℕ → Said → List Said → Watched K → Watched K → Type 0
Turns takes fails (Ok (Goes refused)) m before after k said lines old new =
    (piece : List ℕ) × Passed takes old.inner new.inner piece
    × (said_text m before k (said ∷ lines) ≡ piece ++ said_text m after (k + 1) lines)
    × (bad_line k (asked (said ∷ lines)) ≡ bad_line (k + 1) (asked lines))
    × (any_refused before (said ∷ lines) ≡ (refused || any_refused after lines)) × (new.failed ≡ false)
Turns takes fails (Ok Ends) m before after k said lines old new =
    Passed takes old.inner new.inner (said_text m before k (said ∷ lines)) × (bad_line k (asked (said ∷ lines)) ≡ Some k) × (new.failed ≡ false)
Turns takes fails (Err f) m before after k said lines old new = WroteFront takes fails f (said_text m before k (said ∷ lines)) old new
