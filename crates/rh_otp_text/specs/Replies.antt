-- The texts of answers (ours).
use Rattle.std.specs.Prelude.{ℕ, List, ◌++◌, codes}
use Rattle.std.specs.Fmt.{decimal}
use Rattle.std.specs.List.{flat_map}
use Rattle.rh_model.specs.ClusterView.{ClusterView}
use Rattle.rh_otp_report.specs.Report.{report_of}
use Rattle.rh_otp_sim.specs.declared.calls.LiveReply.{LiveReply}
use Rattle.rh_otp_sim.specs.declared.calls.LiveReply.TheVariants as reply
use Rattle.rh_otp_sim.specs.declared.lines.Answer.{Answer}
use Rattle.rh_otp_sim.specs.declared.lines.Answer.TheVariants.{Told, NoAnswer}
use Rattle.rh_otp_sim.specs.declared.stepping.Outcome.{Outcome}
use Rattle.rh_otp_sim.specs.declared.stepping.Outcome.TheVariants as outcome
use Rattle.rh_otp_sim.specs.Sim.{LiveSimView}
use Rattle.rh_otp_sim.specs.Views.{HappenedView}
use Rattle.rh_otp_text.specs.Lines.{refusal_words_with, verdict_words, line_text}
use Rattle.rh_otp_text.specs.ReportText.{report_text}

-- the line of the answer to a command
abbrev pub answer_line : ClusterView → Answer → List ℕ
answer_line c (Told verdict) = verdict_words c verdict ++ codes "\n"
answer_line c NoAnswer = codes "no answer\n"

-- it, and the lines of what has happened
abbrev pub happened_text : ClusterView → HappenedView → List ℕ
happened_text c h = answer_line c h.answer ++ flat_map (line_text c) h.lines

-- what a step comes to
abbrev pub outcome_text : ClusterView → Outcome → List ℕ
outcome_text c (outcome.Refused refusal) = refusal_words_with c refusal ++ codes "\n"
outcome_text c outcome.Endless = codes "endless\n"
outcome_text c (outcome.Done h) = happened_text c h

abbrev pub moved_text : ℕ → List ℕ
moved_text count = codes "ok " ++ decimal count ++ codes "\n"

-- the state
abbrev pub seen_text : LiveSimView → List ℕ
seen_text sim = codes "ok\n" ++ report_text sim.cluster (report_of sim)

-- the answer to a call, where the simulation is this behind it
unfoldable pub reply_text : LiveSimView → LiveReply → List ℕ
reply_text sim (reply.Step outcome) = outcome_text sim.cluster outcome
reply_text sim reply.Undone = codes "ok\n"
reply_text sim reply.Redone = codes "ok\n"
reply_text sim reply.AtStart = codes "refused at_start\n"
reply_text sim reply.AtEnd = codes "refused at_end\n"
reply_text sim (reply.Moved count) = moved_text count
reply_text sim reply.Seen = seen_text sim
