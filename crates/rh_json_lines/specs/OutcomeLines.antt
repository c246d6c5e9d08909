-- The line of a plan with what came of it, and the one of a sweep that is refused (ours).
use Rattle.std.specs.Prelude.{ℕ, ◌+◌, List, [], ◌++◌, codes, Option, Some, None}
use Rattle.std.specs.Fmt.{decimal}
use Rattle.rh_model.specs.ClusterView.{ClusterView}
use Rattle.rh_model.specs.declared.node.App.{App}
use Rattle.rh_state.specs.declared.status.Standing.{Standing}
use Rattle.rh_rules.specs.declared.refusal.Refusal.{Refusal}
use Rattle.rh_calls.specs.declared.call.Reply.TheVariants as reply
use Rattle.rh_plans.specs.declared.fault.SweepFault.{SweepFault}
use Rattle.rh_plans.specs.declared.plan.Outcome.{Outcome}
use Rattle.rh_plans.specs.FaultWords.{fault_words}
use Rattle.rh_script.specs.Answers.{answer_text}
use Rattle.rh_json_text.specs.Json.{json_string, json_array}
use Rattle.rh_json_lines.specs.ClusterLines.{refused_line}
use Rattle.rh_json_lines.specs.AnswerLines.{first_line}
use Rattle.rh_json_lines.specs.Reports.{standing_json}

-- a distributed application, and where it stands, as in a report
abbrev pub stands_json : ClusterView → App × Standing → List ℕ
stands_json c at = standing_json c at.0 at.1

-- the name of a plan, and how many of its events were accepted
unfoldable pub accepted_json : List ℕ → Outcome → List ℕ
accepted_json name o = codes "{\"plan\":" ++ json_string name ++ codes ",\"accepted\":" ++ decimal o.accepted

-- what was counted, behind its key
abbrev pub count_json : List ℕ → ℕ → List ℕ
count_json key count = key ++ decimal count

-- what was counted in it
unfoldable pub counts_json : Outcome → List ℕ
counts_json o = count_json (codes ",\"failovers\":") o.failovers ++ count_json (codes ",\"takeovers\":") o.takeovers

-- the event of this place, counted from 1 where it is told, and what a run answers to it
unfoldable pub event_json : ClusterView → ℕ → Refusal → List ℕ
event_json c place refusal =
    count_json (codes ",\"refused\":{\"event\":") (place + 1)
    ++ codes ",\"answer\":" ++ json_string (first_line (answer_text c (reply.Refused refusal))) ++ codes "}"

-- the event that was refused, if one was
abbrev pub refused_event_json : ClusterView → Option (ℕ × Refusal) → List ℕ
refused_event_json c None = []
refused_event_json c (Some (place, refusal)) = event_json c place refusal

-- where each distributed application stands at its end
unfoldable pub ends_json : ClusterView → Outcome → List ℕ
ends_json c o = codes ",\"applications\":" ++ json_array (stands_json c) o.standings ++ codes "}\n"

-- the line of a plan
unfoldable pub outcome_line : ClusterView → List ℕ → Outcome → List ℕ
outcome_line c name o = accepted_json name o ++ counts_json o ++ refused_event_json c o.refused ++ ends_json c o

-- why there is no sweep, as the fault of a cluster file is told
abbrev pub sweep_fault_line : SweepFault → List ℕ
sweep_fault_line f = refused_line (fault_words f)
