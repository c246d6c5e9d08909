-- The line of a command with its answer, and the line of one that is none (ours).
use Rattle.std.specs.Prelude.{ℕ, List, [], ◌++◌, ◌==◌, codes, Option}
use Rattle.std.specs.List.{before_first}
use Rattle.std.specs.Fmt.{decimal}
use Rattle.rh_model.specs.ClusterView.{ClusterView}
use Rattle.rh_step.specs.Firings.{FiringView}
use Rattle.rh_calls.specs.declared.call.Call.{Call}
use Rattle.rh_calls.specs.declared.call.Reply.{Reply}
use Rattle.rh_calls.specs.declared.call.Reply.TheVariants as reply
use Rattle.rh_state.specs.StateView.{StateView}
use Rattle.rh_trail.specs.SimView.{SimView, state_of}
use Rattle.rh_trail.specs.Lone.{Served, served}
use Rattle.rh_script.specs.Answers.{answer_text}
use Rattle.rh_json_text.specs.Json.{json_string, json_array}
use Rattle.rh_json_lines.specs.Notices.{notice_json, fired_by, timed_notices}
use Rattle.rh_json_lines.specs.Reports.{report_json}

-- the first line of a text
abbrev pub first_line : List ℕ → List ℕ
first_line text = before_first (λ b. b == 10) text

-- what follows the answer: the notices of a step that was accepted, or the report that was asked for
abbrev pub more_json : ClusterView → Option (List FiringView) → Reply → StateView → List ℕ
more_json c fired (reply.Done notices) s = codes ",\"notices\":" ++ json_array (notice_json c) (timed_notices notices fired)
more_json c fired (reply.Seen cursor trail text) s = codes ",\"report\":" ++ report_json cursor trail s
more_json c fired reply s = []

-- the number of a command's line, the line, and the first line of its answer
unfoldable pub head_json : ℕ → List ℕ → List ℕ → List ℕ
head_json number line answer =
    codes "{\"line\":" ++ decimal number ++ codes ",\"command\":" ++ json_string line ++ codes ",\"answer\":" ++ json_string (first_line answer)

-- the line of a command with its reply; a report is that of this state
unfoldable pub reply_line : ClusterView → ℕ → List ℕ → Option (List FiringView) → Reply → StateView → List ℕ
reply_line c number line fired reply s = head_json number line (answer_text c reply) ++ more_json c fired reply s ++ codes "}\n"

-- a command that is made of a simulation; a report is that of the state behind it
unfoldable pub answer_line : ClusterView → SimView → ℕ → List ℕ → Call → List ℕ
answer_line c sim number line call =
    reply_line c number line (fired_by sim call) (served sim call).reply (state_of (served sim call).sim)

-- a line that is no command
unfoldable pub bad_json : ℕ → List ℕ
bad_json number = codes "{\"line\":" ++ decimal number ++ codes ",\"bad\":true}\n"
