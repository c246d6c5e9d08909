-- The line of a command with the answer of live nodes (ours).
use Rattle.std.specs.Prelude.{ℕ, ◌-◌, List, [], ◌++◌, codes, length}
use Rattle.rh_json_lines.specs.AnswerLines.{head_json}
use Rattle.rh_json_text.specs.Json.{json_array}
use Rattle.rh_model.specs.ClusterView.{ClusterView}
use Rattle.rh_otp_report.specs.Report.{report_of}
use Rattle.rh_otp_sim.specs.declared.calls.LiveReply.{LiveReply}
use Rattle.rh_otp_sim.specs.declared.calls.LiveReply.TheVariants as reply
use Rattle.rh_otp_sim.specs.declared.lines.Answer.{Answer}
use Rattle.rh_otp_sim.specs.declared.lines.Answer.TheVariants.{Told, NoAnswer}
use Rattle.rh_otp_sim.specs.declared.stepping.Outcome.TheVariants as outcome
use Rattle.rh_otp_sim.specs.Sim.{LiveSimView}
use Rattle.rh_otp_sim.specs.Views.{HappenedView}
use Rattle.rh_otp_text.specs.Replies.{reply_text}
use Rattle.rh_otp_json_lines.specs.Calls.{error_in}
use Rattle.rh_otp_json_lines.specs.Notices.{notice_json}
use Rattle.rh_otp_json_lines.specs.Reports.{report_json}

-- the error, where the answer to a command is one
abbrev pub answered_error : ClusterView → Answer → List ℕ
answered_error c (Told verdict) = error_in c verdict
answered_error c NoAnswer = []

-- of a step that was made: the error, and what has happened
abbrev pub happened_json : ClusterView → HappenedView → List ℕ
happened_json c h = answered_error c h.answer ++ codes ",\"notices\":" ++ json_array (notice_json c) h.lines

-- the report of the state
abbrev pub seen_json : LiveSimView → List ℕ
seen_json sim = codes ",\"report\":" ++ report_json sim.history.cursor (length sim.history.states - 1) sim.cluster (report_of sim)

-- what follows the answer
abbrev pub more_json : LiveSimView → LiveReply → List ℕ
more_json sim (reply.Step (outcome.Refused refusal)) = []
more_json sim (reply.Step outcome.Endless) = []
more_json sim (reply.Step (outcome.Done h)) = happened_json sim.cluster h
more_json sim reply.Undone = []
more_json sim reply.Redone = []
more_json sim reply.AtStart = []
more_json sim reply.AtEnd = []
more_json sim (reply.Moved count) = []
more_json sim reply.Seen = seen_json sim

-- the line of a command of this number, where the simulation is this behind it: the answer is the first line of its text
unfoldable pub reply_line : LiveSimView → ℕ → List ℕ → LiveReply → List ℕ
reply_line sim number command reply = head_json number command (reply_text sim reply) ++ more_json sim reply ++ codes "}\n"
