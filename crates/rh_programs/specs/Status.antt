-- The exit status, and what it says (ours).
use Rattle.std.specs.Prelude.{◌≡◌, ◌⊎◌, ◌==◌, ℕ, List, Bool, true, false, Option, Some, None, Result, Ok, Err}
use Rattle.rh_run.specs.declared.fault.RunFault.{RunFault}
use Rattle.rh_run.specs.declared.fault.RunFault.TheVariants as end
use Rattle.rh_run.specs.declared.fault.Told.{Told}
use Rattle.rh_asked.specs.declared.program.Program.{Program}
use Rattle.rh_asked.specs.declared.program.Program.TheVariants.{Check, CheckJson, Run, RunLive, RunLiveJson, RunIn, RunJson, Dialogue, DialogueJson, DialogueLive, DialogueLiveJson, Story, StoryLive, Verify, VerifyLive, Lint, LintLive, Explore, ExploreJson, ExploreLive, Sessions, Sweep, SweepJson, SweepLive, SweepLiveJson}
use Rattle.rh_devices.specs.declared.watched.Watched.{Watched}
use Rattle.rh_devices.specs.Devices.{Passed}
use Rattle.rh_run.specs.Programs.{IsInput, ProgramGives, NoThreads}
use Rattle.rh_run.specs.CheckText.{OwesCheck}
use Rattle.rh_run.specs.RunText.{OwesRun}
use Rattle.rh_app.specs.Sessions.{MayGive, AskHistory}
use Rattle.rh_run.specs.SweepText.{OwesSweep}
use Rattle.rh_manner.specs.declared.voice.Form.{Form}
use Rattle.rh_manner.specs.declared.voice.Form.TheVariants as form
use Rattle.rh_manner.specs.DialogueText.{DialogueGives}
use Rattle.rh_manner.specs.Laws.{plain}
use Rattle.rh_manner.specs.Voices.{voiced}
use Rattle.rh_explore_text.specs.ExploreText.{OwesExplore}
use Rattle.rh_explore_text.specs.ExploreJson.{OwesExploreJson}
use Rattle.rh_json.specs.CheckJson.{OwesCheckJson}
use Rattle.rh_json.specs.RunJson.{OwesRunJson}
use Rattle.rh_manner.specs.MannerText.{OwesRunIn}
use Rattle.rh_otp_net.specs.declared.order.Order.{Order}
use Rattle.rh_rules.specs.declared.pick.Pick.{Pick}
use Rattle.rh_otp_dialogue.specs.LiveVoices.{live_voiced}
use Rattle.rh_otp_explore_text.specs.LiveExplore.{OwesLiveExplore}
use Rattle.rh_otp_json.specs.LiveJson.{OwesLiveJson}
use Rattle.rh_otp_lint.specs.LiveLint.{OwesLiveLint}
use Rattle.rh_otp_plans.specs.LiveSweep.{OwesLiveSweep}
use Rattle.rh_otp_plans.specs.LiveSweepJson.{OwesLiveSweepJson}
use Rattle.rh_otp_run.specs.LiveText.{OwesLiveRun}
use Rattle.rh_otp_story.specs.LiveStory.{OwesLiveStory}
use Rattle.rh_otp_verify.specs.LiveVerify.{OwesLiveVerify}
use Rattle.rh_story.specs.StoryText.{OwesStory}
use Rattle.rh_json.specs.SweepJson.{OwesSweepJson}
use Rattle.rh_verify.specs.VerifyText.{OwesVerify}
use Rattle.rh_lint.specs.LintText.{OwesLint}
use Rattle.rh_programs.specs.declared.status.Tongue.{Tongue}
use Rattle.rh_programs.specs.declared.status.Tongue.TheVariants as tongue

-- what a program owes
abbrev pub Owes : Program → List ℕ → List ℕ → Option Told → Type 0
Owes Check = OwesCheck
Owes CheckJson = OwesCheckJson
Owes (Run pick) = OwesRun pick
Owes (RunLive order manner) = OwesLiveRun order manner
Owes (RunLiveJson order) = OwesLiveJson order
Owes (RunIn pick manner) = OwesRunIn manner pick
Owes (RunJson pick) = OwesRunJson pick
Owes (Dialogue pick) = OwesRun pick
Owes (DialogueJson pick) = OwesRunJson pick
Owes (DialogueLive order) = OwesLiveRun order plain
Owes (DialogueLiveJson order) = OwesLiveJson order
Owes (Story pick whole) = OwesStory pick whole
Owes (StoryLive order whole) = OwesLiveStory order whole
Owes (Verify pick) = OwesVerify pick
Owes (VerifyLive order) = OwesLiveVerify order
Owes (Lint pick manner) = OwesLint manner pick
Owes (LintLive order manner) = OwesLiveLint manner order
Owes (Explore pick room workers) = OwesExplore pick room
Owes (ExploreJson pick room workers) = OwesExploreJson pick room
Owes (ExploreLive order lists json) = OwesLiveExplore order lists json
Owes (Sessions pick) = MayGive pick
Owes (Sweep pick workers) = OwesSweep pick
Owes (SweepJson pick workers) = OwesSweepJson pick
Owes (SweepLive order workers) = OwesLiveSweep order
Owes (SweepLiveJson order workers) = OwesLiveSweepJson order

-- for which inputs its threads may make no one history
abbrev pub MayTear : Program → List ℕ → Type 0
MayTear (Sessions pick) = AskHistory
MayTear program = NoThreads

-- the exit status for how a program ended
abbrev pub status_of : Result (Unit {0}) RunFault → ℕ
status_of (Ok x) = 0
status_of (Err (end.Cluster f)) = 2
status_of (Err (end.BadLine k)) = 3
status_of (Err end.Read) = 4
status_of (Err end.Write) = 4
status_of (Err end.OutOfMemory) = 5
status_of (Err (end.Sweep f)) = 6
status_of (Err end.Room) = 6
status_of (Err end.Refused) = 9
status_of (Err end.Differs) = 9
status_of (Err end.Unfinished) = 10

-- at last the writer was flushed; or that failed, which is status 4
abbrev pub Flushed : {K : Type 0} → (K → K → Type 0) → (K → K → Type 0) → Watched K → Watched K → ℕ → Result (Unit {0}) RunFault → Type 0
Flushed flushes fails before after status ended =
    (flushes before.inner after.inner × (after.failed ≡ before.failed) × (status ≡ status_of ended))
    ⊎ (fails before.inner after.inner × (after.failed ≡ true) × (status ≡ 4))

-- the program ended, and then the writer was flushed
abbrev pub StatusGives : {S K : Type 0} → (S → S → List ℕ → Type 0) → (S → S → Type 0) → (K → K → List ℕ → Type 0) → (K → K → Type 0) → (K → K → Type 0)
    → Program → ℕ → Watched S → Watched S → Watched K → Watched K → Type 0
StatusGives {S = S} {K = K} gives unread takes flushes unwritten program status old new before after =
    (ended : Result (Unit {0}) RunFault) × (written : Watched K)
    × ProgramGives gives unread takes unwritten (Owes program) (MayTear program) ended old new before written
    × Flushed flushes unwritten written after status ended

-- by the manual's rules in this form, and by those of live nodes
abbrev pub manual : Pick → Form → Tongue
manual pick form = tongue.Manual (record { pick = pick; form = form })

abbrev pub live : Order → Form → Tongue
live order form = tongue.Live (record { order = order; form = form })

-- in which tongue a program answers each line before more is read, if it does
abbrev pub tongue_of : Program → Option Tongue
tongue_of (Dialogue pick) = Some (manual pick form.Plain)
tongue_of (DialogueJson pick) = Some (manual pick form.Json)
tongue_of (DialogueLive order) = Some (live order form.Plain)
tongue_of (DialogueLiveJson order) = Some (live order form.Json)
tongue_of program = None

-- what is said of an input in it
abbrev pub said_in : Tongue → List ℕ → List ℕ
said_in (tongue.Manual voice) = voiced voice
said_in (tongue.Live voice) = live_voiced voice

-- a dialogue ended that says this of an input, and then its device was flushed
abbrev pub DialogueStatus : {D : Type 0} → (D → D → List ℕ → Type 0) → (D → D → Type 0) → (D → D → List ℕ → Type 0) → (D → D → Type 0) → (D → D → Type 0)
    → (List ℕ → List ℕ) → ℕ → Watched D → Watched D → Type 0
DialogueStatus {D = D} gives unread takes flushes unwritten said status old new =
    (ended : Result (Unit {0}) RunFault) × (written : Watched D)
    × DialogueGives gives unread takes flushes unwritten said ended old written
    × Flushed flushes unwritten written new status ended

-- what status 0 says: the writer took the whole text of all that the reader gave, which tells no fault, and was flushed behind it
abbrev pub IsDone : {S K : Type 0} → (S → S → List ℕ → Type 0) → (K → K → List ℕ → Type 0) → (K → K → Type 0)
    → Program → Watched S → Watched S → Watched K → Watched K → Type 0
IsDone {S = S} {K = K} gives takes flushes program old new before after =
    (bytes : List ℕ) × (text : List ℕ) × (written : K) × IsInput gives old new bytes × Owes program bytes text None
    × Passed takes before.inner written text × flushes written after.inner × (after.failed ≡ false)
