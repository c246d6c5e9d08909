-- The texts that sessions may write: there is one for all bytes, and what was written is one of them.
use Rattle.std.proofs.Common.{◌≡◌, ℕ, List, [], ◌∷◌, map, Bool, false, Option, Some, None, Result, Ok, Err, refl, sym, ap, subst}
use Rattle.rh_model.specs.ClusterView.{ClusterView}
use Rattle.rh_cluster.specs.ClusterOf.{cluster_of}
use Rattle.rh_cluster.specs.declared.fault.ClusterFault.{ClusterFault}
use Rattle.rh_rules.specs.declared.pick.Pick.{Pick}
use Rattle.rh_trail.specs.SimView.{SimView}
use Rattle.rh_trail.specs.Lone.{opened, served}
use Rattle.rh_room.specs.declared.pass.Entry.{Entry}
use Rattle.rh_room.specs.Legal.{IsLegal, entry}
use Rattle.rh_script.specs.declared.session_lines.Command.{Command}
use Rattle.rh_script.specs.Lines.{cluster_text, script_lines}
use Rattle.rh_script.specs.Answers.{fault_text, bad_text}
use Rattle.rh_run.specs.declared.fault.Told.{Told}
use Rattle.rh_run.specs.declared.fault.Told.TheVariants as told
use Rattle.rh_devices.specs.declared.fault.WriteFault.{WriteFault}
use Rattle.rh_devices.specs.declared.fault.WriteFault.TheVariants as writing
use Rattle.rh_app.specs.declared.fault.HistoryFault.{HistoryFault}
use Rattle.rh_app.specs.declared.fault.HistoryFault.TheVariants as history
use Rattle.rh_app.specs.declared.fault.SessionsFault.{SessionsFault}
use Rattle.rh_app.specs.declared.fault.SessionsFault.TheVariants as sessions
use Rattle.rh_devices.specs.declared.watched.Watched.{Watched}
use Rattle.rh_app.specs.Faults.{history_fault}
use Rattle.rh_devices.specs.Devices.{Passed, WroteFront}
use Rattle.rh_app.specs.Histories.{session_lines_asked, commands_of, bad_session_line, asked, by_session, IsHistory, history_text, last_state}
use Rattle.rh_app.specs.Sessions.{ScriptMayGive, MayGiveOver, MayGive, AskOver, AskHistory, OneWritten, WroteOne}
use Rattle.rh_devices.proofs.Passing.{nothing_yet}

-- ---- there is a history, and so a text

-- the log in which the commands stand one after the other, as they were written
abbrev in_turn : SimView → List Command → List Entry
in_turn s [] = []
in_turn s (x ∷ xs) = entry x.session x.call (served s x.call).reply ∷ in_turn (served s x.call).sim xs

in_turn_legal : (s : SimView) (xs : List Command) → IsLegal s (in_turn s xs)
in_turn_legal s [] = refl
in_turn_legal s (x ∷ xs) = ap (λ rs. (served s x.call).reply ∷ rs) (in_turn_legal (served s x.call).sim xs)

in_turn_asked : (s : SimView) (xs : List Command) → map asked (in_turn s xs) ≡ xs
in_turn_asked s [] = refl
in_turn_asked s (x ∷ xs) = ap (λ cs. x ∷ cs) (in_turn_asked (served s x.call).sim xs)

pub some_history : (c : ClusterView) (pick : Pick) (commands : List Command) → (log : List Entry) × IsHistory c pick commands log
some_history c pick commands = (
  in_turn (opened c pick) commands,
  record {
    legal = in_turn_legal (opened c pick) commands;
    interleaved = λ session. ap (by_session session) (in_turn_asked (opened c pick) commands);
  },
)

pub some_text : (c : ClusterView) (pick : Pick) (commands : List Command) (bad : Option ℕ)
    → (text : List ℕ) × (owed : Option Told) × ScriptMayGive c pick commands bad text owed
some_text c pick commands None =
    let some = some_history c pick commands in
    (history_text c some.0 (last_state c pick some.0), None, (some.0, some.1, refl, refl))
some_text c pick commands (Some k) = (bad_text k, Some (told.BadLine k), (refl, refl))

some_over : (pick : Pick) (lines : List (List ℕ)) (read : Result ClusterView ClusterFault)
    → (text : List ℕ) × (owed : Option Told) × MayGiveOver pick lines read text owed
some_over pick lines (Ok c) = some_text c pick (commands_of (session_lines_asked c lines)) (bad_session_line 1 0 (session_lines_asked c lines))
some_over pick lines (Err f) = (fault_text f, Some (told.Cluster f), (refl, refl))

pub some_given : (bytes : List ℕ) (pick : Pick) → (text : List ℕ) × (owed : Option Told) × MayGive pick bytes text owed
unfolding MayGive
some_given bytes pick = some_over pick (script_lines bytes) (cluster_of (cluster_text bytes))

-- ---- what was written is one of the texts

-- a text that is no cluster's
pub cluster_fault_given : (bytes : List ℕ) (pick : Pick) (f : ClusterFault)
    → cluster_of (cluster_text bytes) ≡ Err f → MayGive pick bytes (fault_text f) (Some (told.Cluster f))
unfolding MayGive
cluster_fault_given bytes pick f read = subst (λ x. MayGiveOver pick (script_lines bytes) x (fault_text f) (Some (told.Cluster f))) (sym read) (refl, refl)

module _ {K : Type 0} (takes : K → K → List ℕ → Type 0) (fails : K → K → Type 0) where
  -- a growth was refused before anything was written
  pub starved : (may : List ℕ → Option Told → Type 0) (old : Watched K) → old.failed ≡ false
      → (text : List ℕ) × (owed : Option Told) × may text owed → OneWritten takes fails may (Err writing.OutOfMemory) old old
  starved may old well some = (some.0, some.1, some.2, (nothing_yet takes fails old.inner some.0, well))

  -- no history was made
  pub history_fails : (c : ClusterView) (pick : Pick) (commands : List Command) (f : HistoryFault) (old : Watched K) → old.failed ≡ false
      → WroteOne takes fails (ScriptMayGive c pick commands None) (Unit {0}) (Err (history_fault f)) old old
  history_fails c pick commands history.Room old well = (tt, refl)
  history_fails c pick commands history.OutOfMemory old well = starved (ScriptMayGive c pick commands None) old well (some_text c pick commands None)

  -- nor was it told whole that a line is no command
  pub bad_breaks : (c : ClusterView) (pick : Pick) (commands : List Command) (bad : Option ℕ) (torn : Type 0) (k : ℕ) (old new : Watched K) → bad ≡ Some k
      → (f : WriteFault) → WroteFront takes fails f (bad_text k) old new
      → WroteOne takes fails (ScriptMayGive c pick commands bad) torn (Err (sessions.Write f)) old new
  bad_breaks c pick commands bad torn k old new is f h =
      subst (λ b. WroteOne takes fails (ScriptMayGive c pick commands b) torn (Err (sessions.Write f)) old new) (sym is)
      (bad_text k, Some (told.BadLine k), (refl, refl), h)

  -- it was told whole
  pub bad_told : (c : ClusterView) (pick : Pick) (commands : List Command) (bad : Option ℕ) (torn : Type 0) (k : ℕ) (old new : Watched K) → bad ≡ Some k
      → Passed takes old.inner new.inner (bad_text k) → new.failed ≡ false
      → WroteOne takes fails (ScriptMayGive c pick commands bad) torn (Ok (Some (told.BadLine k))) old new
  bad_told c pick commands bad torn k old new is p q =
      subst (λ b. WroteOne takes fails (ScriptMayGive c pick commands b) torn (Ok (Some (told.BadLine k))) old new) (sym is)
      (bad_text k, Some (told.BadLine k), (refl, refl), (refl, p, q))

  -- what was written for commands is what was written for the script that has no bad line
  pub over_commands : (c : ClusterView) (pick : Pick) (commands : List Command) (bad : Option ℕ) (old new : Watched K) → bad ≡ None
      → (r : Result (Option Told) SessionsFault) → WroteOne takes fails (ScriptMayGive c pick commands None) (Unit {0}) r old new
      → WroteOne takes fails (ScriptMayGive c pick commands bad) (bad ≡ None) r old new
  over_commands c pick commands bad old new is (Ok said) h = (h.0, h.1, rw is h.2, h.3)
  over_commands c pick commands bad old new is (Err (sessions.Write f)) h = (h.0, h.1, rw is h.2, h.3)
  over_commands c pick commands bad old new is (Err sessions.Room) h = (is, h.1)

  -- what was written for a script is what was written for the bytes of which it is part
  pub over_script : (bytes : List ℕ) (pick : Pick) (c : ClusterView) (lines : List (List ℕ)) (old new : Watched K) → cluster_of (cluster_text bytes) ≡ Ok c
      → lines ≡ script_lines bytes → (r : Result (Option Told) SessionsFault)
      → WroteOne takes fails (ScriptMayGive c pick (commands_of (session_lines_asked c lines)) (bad_session_line 1 0 (session_lines_asked c lines)))
      (bad_session_line 1 0 (session_lines_asked c lines) ≡ None) r old new
      → WroteOne takes fails (MayGive pick bytes) (AskHistory bytes) r old new
  unfolding MayGive AskHistory
  over_script bytes pick c lines old new read cut (Ok said) h = (h.0, h.1, rw (read, sym cut) h.2, h.3)
  over_script bytes pick c lines old new read cut (Err (sessions.Write f)) h = (h.0, h.1, rw (read, sym cut) h.2, h.3)
  over_script bytes pick c lines old new read cut (Err sessions.Room) h = (rw (read, sym cut) h.0, h.1)
