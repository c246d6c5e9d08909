-- The line of JSON of a plan that was tried on live nodes (ours): the fields of `run --json` and of its report where the same is meant.
use Rattle.std.specs.Prelude.{ℕ, ◌+◌, List, [], ◌++◌, codes, Option, Some, None}
use Rattle.std.specs.Fmt.{decimal}
use Rattle.rh_json_lines.specs.ClusterLines.{node_json}
use Rattle.rh_json_text.specs.Json.{json_string, json_array}
use Rattle.rh_model.specs.ClusterView.{ClusterView}
use Rattle.rh_otp_json_lines.specs.Calls.{verdict_json}
use Rattle.rh_otp_json_lines.specs.Nodes.{block_json, boot_json}
use Rattle.rh_otp_json_lines.specs.Reports.{apps_list, open_list}
use Rattle.rh_otp_sim.specs.declared.lines.Answer.{Answer}
use Rattle.rh_otp_sim.specs.declared.lines.Answer.TheVariants.{Told, NoAnswer}
use Rattle.rh_otp_sim.specs.declared.verdict.Verdict.TheVariants as verdict
use Rattle.rh_otp_sweep.specs.declared.outcome.EventAnswer.{EventAnswer}
use Rattle.rh_otp_sweep.specs.declared.outcome.Hang.{Hang}
use Rattle.rh_otp_sweep.specs.declared.outcome.Stop.{Stop}
use Rattle.rh_otp_sweep.specs.declared.outcome.Stop.TheVariants as stop
use Rattle.rh_otp_sweep.specs.Outcomes.{LiveOutcomeView}
use Rattle.rh_rules.specs.declared.refusal.Refusal.{Refusal}

-- the name of a plan, and how many of its events were made
unfoldable pub accepted_json : List ℕ → ℕ → List ℕ
accepted_json name accepted = codes "{\"plan\":" ++ json_string name ++ codes ",\"accepted\":" ++ decimal accepted

-- the fields of an answer, as `run --json` has them
abbrev pub answer_fields : ClusterView → Answer → List ℕ
answer_fields c (Told verdict) = verdict_json c verdict
answer_fields c NoAnswer = codes ",\"answer\":\"no answer\""

-- the event of this number with the fields of its answer
unfoldable pub answered_json : ClusterView → ℕ → Answer → List ℕ
answered_json c number answer = codes "{\"event\":" ++ decimal number ++ answer_fields c answer ++ codes "}"

-- an event that was made and not answered by `ok`
unfoldable pub event_json : ClusterView → EventAnswer → List ℕ
event_json c a = answered_json c a.event a.answer

unfoldable pub answers_list : ClusterView → List EventAnswer → List ℕ
answers_list c answers = codes ",\"answers\":" ++ json_array (event_json c) answers

-- the event of this number, which couldn't be given to a node
unfoldable pub refused_json : ClusterView → ℕ → Refusal → List ℕ
refused_json c number refusal = codes ",\"refused\":" ++ answered_json c number (Told (verdict.Refused refusal))

-- or which has no end
unfoldable pub endless_json : ℕ → List ℕ
endless_json number = codes ",\"endless\":" ++ decimal number

-- the event of this number, if the plan ended there
abbrev pub stop_json : ClusterView → ℕ → Option Stop → List ℕ
stop_json c number None = []
stop_json c number (Some (stop.Refused refusal)) = refused_json c number refusal
stop_json c number (Some stop.Endless) = endless_json number

-- a node at which something hangs, and what, as in a report
unfoldable pub hang_json : ClusterView → Hang → List ℕ
hang_json c h = codes "{\"node\":" ++ node_json c h.node ++ block_json c h.block ++ boot_json c h.boot ++ codes "}"

unfoldable pub hangs_list : ClusterView → List Hang → List ℕ
hangs_list c hangs = codes ",\"blocked\":" ++ json_array (hang_json c) hangs

-- what came of its events
unfoldable pub events_json : ClusterView → List ℕ → LiveOutcomeView → List ℕ
events_json c name o = accepted_json name o.accepted ++ answers_list c o.answers ++ stop_json c (o.accepted + 1) o.stop

-- and the state then: where the distributed applications run, what hangs, and which calls are open
unfoldable pub state_json : ClusterView → LiveOutcomeView → List ℕ
state_json c o = apps_list c o.apps ++ hangs_list c o.hangs ++ open_list c o.calls

-- the line of a plan
unfoldable pub outcome_line : ClusterView → List ℕ → LiveOutcomeView → List ℕ
outcome_line c name o = events_json c name o ++ state_json c o ++ codes "}\n"
