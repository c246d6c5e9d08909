-- The lines of a plan that was tried on live nodes (ours): those of `run` and of its report where the same is meant.
use Rattle.std.specs.Prelude.{ℕ, ◌+◌, List, [], ◌++◌, codes, Option, Some, None}
use Rattle.std.specs.Fmt.{decimal}
use Rattle.std.specs.List.{flat_map}
use Rattle.rh_calls.specs.Report.{node_word, app_word}
use Rattle.rh_model.specs.ClusterView.{ClusterView}
use Rattle.rh_model.specs.declared.node.App.{App}
use Rattle.rh_model.specs.declared.node.Node.{Node}
use Rattle.rh_otp_report.specs.declared.block.Block.{Block}
use Rattle.rh_otp_sweep.specs.declared.outcome.EventAnswer.{EventAnswer}
use Rattle.rh_otp_sweep.specs.declared.outcome.Hang.{Hang}
use Rattle.rh_otp_sweep.specs.declared.outcome.Stop.{Stop}
use Rattle.rh_otp_sweep.specs.declared.outcome.Stop.TheVariants as stop
use Rattle.rh_otp_sweep.specs.Outcomes.{LiveOutcomeView}
use Rattle.rh_otp_text.specs.Nodes.{block_words}
use Rattle.rh_otp_text.specs.Replies.{answer_line}
use Rattle.rh_otp_text.specs.ReportText.{app_line, call_line}
use Rattle.rh_rules.specs.Refusals.{refusal_words}
use Rattle.rh_script.specs.Answers.{reason_words}

-- the plan, and how many of its events were made
unfoldable pub plan_line : List ℕ → ℕ → List ℕ
plan_line name accepted = codes "plan " ++ name ++ codes " accepted " ++ decimal accepted ++ codes "\n"

-- an event that was made and not answered by `ok`, with the line of its answer
unfoldable pub event_line : ClusterView → EventAnswer → List ℕ
event_line c a = codes "answer " ++ decimal a.event ++ codes " " ++ answer_line c a.answer

-- the event of this number, if the plan ended there
unfoldable pub stop_line : ClusterView → ℕ → Option Stop → List ℕ
stop_line c number None = []
stop_line c number (Some (stop.Refused refusal)) =
    codes "refused " ++ decimal number ++ codes " " ++ refusal_words refusal ++ reason_words c refusal ++ codes "\n"
stop_line c number (Some stop.Endless) = codes "endless " ++ decimal number ++ codes "\n"

-- for what the dist_ac of this node waits
unfoldable pub dist_line : ClusterView → Node → Option Block → List ℕ
dist_line c n None = []
dist_line c n (Some b) = codes "blocked " ++ node_word c n ++ codes " dist_ac " ++ block_words c b ++ codes "\n"

-- for which application's start its boot script waits
unfoldable pub boot_line : ClusterView → Node → Option App → List ℕ
boot_line c n None = []
boot_line c n (Some a) = codes "blocked " ++ node_word c n ++ codes " boot " ++ app_word c a ++ codes "\n"

abbrev pub hang_lines : ClusterView → Hang → List ℕ
hang_lines c h = dist_line c h.node h.block ++ boot_line c h.node h.boot

-- what came of its events, and then the state: where the distributed applications run, what hangs, and which calls are open
unfoldable pub outcome_text : ClusterView → List ℕ → LiveOutcomeView → List ℕ
outcome_text c name o =
    plan_line name o.accepted ++ flat_map (event_line c) o.answers ++ stop_line c (o.accepted + 1) o.stop
    ++ flat_map (app_line c) o.apps ++ flat_map (hang_lines c) o.hangs ++ flat_map (call_line c) o.calls
