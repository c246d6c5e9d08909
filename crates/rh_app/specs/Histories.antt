-- The commands of sessions, and the histories that they make (ours).
use Rattle.std.specs.Prelude.{◌≡◌, ℕ, ◌+◌, List, [], ◌∷◌, ◌++◌, length, map, filter, fold, Bool, true, false, ◌==◌, nat_lt, if◌then◌else◌, Option}
use Rattle.std.specs.Prelude.{codes}
use Rattle.std.specs.List.{flat_map}
use Rattle.std.specs.Fmt.{decimal}
use Rattle.rh_model.specs.ClusterView.{ClusterView}
use Rattle.rh_rules.specs.declared.pick.Pick.{Pick}
use Rattle.rh_state.specs.StateView.{StateView}
use Rattle.rh_calls.specs.declared.call.Call.{Call}
use Rattle.rh_trail.specs.Lone.{opened, sim_after}
use Rattle.rh_trail.specs.SimView.{state_of}
use Rattle.rh_calls.specs.Report.{report_text}
use Rattle.rh_room.specs.declared.pass.Entry.{Entry}
use Rattle.rh_room.specs.declared.pass.Receipt.{Receipt}
use Rattle.rh_room.specs.Legal.{IsLegal, PassView, calls, log_limit}
use Rattle.rh_script.specs.declared.session_lines.Command.{Command}
use Rattle.rh_script.specs.declared.session_lines.SessionLine.{SessionLine}
use Rattle.rh_script.specs.declared.session_lines.SessionLine.TheVariants.{Nothing, Asks, Bad}
use Rattle.rh_script.specs.Fitting.{first_unfit}
use Rattle.rh_script.specs.SessionLines.{command, session_line_of}
use Rattle.rh_script.specs.CommandWords.{command_words}
use Rattle.rh_script.specs.Answers.{answer_text}

abbrev pub session_lines_asked : ClusterView → List (List ℕ) → List SessionLine
session_lines_asked c lines = map (session_line_of c) lines

-- the command of a line, if it is one
abbrev pub command_in : SessionLine → List Command
command_in Nothing = []
command_in (Asks command) = command ∷ []
command_in Bad = []

-- the commands of lines, in their order
abbrev pub commands_of : List SessionLine → List Command
commands_of lines = flat_map command_in lines

-- it is no bad line, nor one command more than a log can hold, behind so many
abbrev pub fits : ℕ → SessionLine → Bool
fits count Nothing = true
fits count (Asks command) = nat_lt count log_limit
fits count Bad = false

-- how many commands there are with this line
abbrev pub counted : ℕ → SessionLine → ℕ
counted count line = count + length (command_in line)

-- the number of the first line that doesn't fit, where the first one has number k and so many commands came before it
abbrev pub bad_session_line : ℕ → ℕ → List SessionLine → Option ℕ
bad_session_line k count lines = first_unfit fits counted k count lines

-- the greatest number of a session, and 1 without commands
abbrev pub greater : ℕ → Command → ℕ
greater session command = if nat_lt session command.session then command.session else session

abbrev pub session_count : List Command → ℕ
session_count commands = fold greater 1 commands

-- the command of an entry
abbrev pub asked : Entry → Command
asked e = command e.session e.call

-- those of one session
abbrev pub by_session : ℕ → List Command → List Command
by_session session commands = filter (λ c. c.session == session) commands

-- the calls that a session was answered, in order
abbrev pub answered : PassView → List Call
answered pass = map (λ (r : Receipt). r.call) pass.receipts

-- the calls of a session's commands
abbrev pub calls_by : ℕ → List Command → List Call
calls_by session commands = map (λ (c : Command). c.call) (by_session session commands)

-- a history of the commands: a legal log in which each session's commands stand, all and in their order, and no others
pub record IsHistory (c : ClusterView) (pick : Pick) (commands : List Command) (log : List Entry) : Type 0 where
  pub legal : IsLegal (opened c pick) log
  pub interleaved : (session : ℕ) → by_session session (map asked log) ≡ by_session session commands

-- ---- its text

unfoldable pub entry_text : ClusterView → Entry → List ℕ
entry_text c e = codes "entry " ++ decimal e.session ++ codes " " ++ command_words c e.call ++ codes "\n" ++ answer_text c e.reply

-- the entries of the log, and at last the report of the state
abbrev pub history_text : ClusterView → List Entry → StateView → List ℕ
history_text c log s = flat_map (entry_text c) log ++ codes "final\n" ++ report_text s

-- the state behind a log
abbrev pub last_state : ClusterView → Pick → List Entry → StateView
last_state c pick log = state_of (sim_after (opened c pick) (calls log))
