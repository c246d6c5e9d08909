-- What a story writes for a line of the script: the line, and what came of it in comment lines (ours).
use Rattle.std.specs.Prelude.{◌==◌, ℕ, List, [], ◌++◌, length, codes, Bool, true, false, if◌then◌else◌}
use Rattle.std.specs.List.{flat_map}
use Rattle.std.specs.Fmt.{decimal}
use Rattle.rh_script.specs.declared.notes.Kind.TheVariants.{Answer, Time, Reason}
use Rattle.rh_script.specs.Notes.{mark, is_told}
use Rattle.rh_model.specs.declared.node.Node.{Node}
use Rattle.rh_model.specs.declared.node.App.{App}
use Rattle.rh_state.specs.declared.status.Timer.TheVariants.{Sync}
use Rattle.rh_state.specs.StateView.{StateView, due_of}
use Rattle.rh_rules.specs.declared.event.Event.{Event}
use Rattle.rh_rules.specs.declared.event.Event.TheVariants.{Tick, Boot}
use Rattle.rh_rules.specs.declared.notice.Notice.{Notice}
use Rattle.rh_rules.specs.declared.notice.Notice.TheVariants.{Waits}
use Rattle.rh_why.specs.Reasons.{reasons, awaited}
use Rattle.rh_why.specs.Texts.{reason_text, awaited_text}
use Rattle.rh_step.specs.Firings.{FiringView, firings}
use Rattle.rh_calls.specs.declared.call.Call.{Call}
use Rattle.rh_calls.specs.declared.call.Call.TheVariants as call
use Rattle.rh_calls.specs.declared.call.Reply.{Reply}
use Rattle.rh_calls.specs.declared.call.Reply.TheVariants as reply
use Rattle.rh_trail.specs.SimView.{SimView, state_of}
use Rattle.rh_trail.specs.Lone.{served}
use Rattle.rh_script.specs.declared.script.Line.{Line}
use Rattle.rh_script.specs.declared.script.Line.TheVariants.{Nothing, Asks, Bad}
use Rattle.rh_script.specs.Lines.{raw_lines, content}
use Rattle.rh_script.specs.Answers.{answer_text, notice_line, bad_text}
use Rattle.rh_story.specs.HeadText.{closed}
use Rattle.rh_story.specs.TableText.{table_text}
use Rattle.rh_story.specs.Telling.{Telling}

-- ---- comment lines

-- each line of an answer behind the mark of answers
abbrev pub answer_lines : List ℕ → List ℕ
answer_lines text = flat_map (λ line. mark Answer ++ line) (raw_lines text)

-- a time behind its mark
abbrev pub time_line : ℕ → List ℕ
time_line time = mark Time ++ decimal time ++ codes "\n"

-- a reason behind its mark
abbrev pub reason_line : List ℕ → List ℕ
reason_line text = mark Reason ++ text ++ codes "\n"

-- ---- why something waits, by a state

-- why an application waits at a node: a line for each reason
abbrev pub app_lines : StateView → App → Node → List ℕ
app_lines s a n = flat_map (λ reason. reason_line (reason_text s.cluster reason)) (reasons s a n)

-- for whom a node waits, and until when; nothing where it waits for nobody
abbrev pub node_lines : StateView → Node → List ℕ
node_lines s n =
    if length (awaited s n) == 0 then [] else reason_line (awaited_text s.cluster (awaited s n) (due_of s (Sync n)))

-- ---- what is told of a line

-- why a notice is told: only that an application waits has reasons
abbrev pub why_lines : StateView → Notice → List ℕ
why_lines s (Waits a n) = app_lines s a n
why_lines s notice = []

-- a notice, and why it is told, by the state behind the call
abbrev pub notice_lines : StateView → Notice → List ℕ
notice_lines s notice = answer_lines (notice_line s.cluster notice) ++ why_lines s notice

-- what a timer that fired told, behind the time at which it was due; nothing where it told nothing
abbrev pub firing_lines : StateView → FiringView → List ℕ
firing_lines s f = if length f.told == 0 then [] else time_line f.due ++ flat_map (notice_lines s) f.told

-- what is told of an accepted event that led to the state t. The notices of a tick come by the timers that fired; behind those
-- of a boot stands for whom its node waits
abbrev pub event_lines : SimView → StateView → Event → List Notice → List ℕ
event_lines s t (Tick ms) notices = flat_map (firing_lines t) (firings (state_of s) ms s.pick)
event_lines s t (Boot n) notices = flat_map (notice_lines t) notices ++ node_lines t n
event_lines s t event notices = flat_map (notice_lines t) notices

-- the answer to a call
abbrev pub call_lines : SimView → Call → Reply → List ℕ
call_lines s (call.Step event) (reply.Done notices) =
    answer_lines (codes "ok\n") ++ event_lines s (state_of (served s (call.Step event)).sim) event notices
call_lines s call reply = answer_lines (answer_text s.cluster reply)

-- a line that asks nothing stands as it is, and is left out where a story wrote it
abbrev pub kept : List ℕ → List ℕ
kept line = if is_told (content line) then [] else line

abbrev pub is_bad : Line → Bool
is_bad Nothing = false
is_bad (Asks call) = false
is_bad Bad = true

-- the text of the k-th line, by what it asks
abbrev pub line_by : {V : Type 0} → Telling V → V → ℕ → List ℕ → Line → List ℕ
line_by t s k line Nothing = kept line
line_by t s k line (Asks call) = closed line ++ t.told s call
line_by t s k line Bad = closed line ++ answer_lines (bad_text k)

-- the simulation behind a line
abbrev pub behind_by : {V : Type 0} → Telling V → V → Line → V
behind_by t s Nothing = s
behind_by t s (Asks call) = t.behind s call
behind_by t s Bad = s

-- ---- by the rules of the manual

-- at the end stands the table of where each distributed application ran
abbrev pub manual : Telling SimView
manual = record {
  cluster = λ s. s.cluster;
  told = λ s call. call_lines s call (served s call).reply;
  behind = λ s call. (served s call).sim;
  ending = λ lack s. table_text lack s;
}

abbrev pub line_text : SimView → ℕ → List ℕ → Line → List ℕ
line_text s k line asked = line_by manual s k line asked

abbrev pub behind_line : SimView → Line → SimView
behind_line s asked = behind_by manual s asked
