-- What a sweep writes as JSON for the bytes that it reads, and how it ends (ours). How many workers there are has no part in it.
use Rattle.std.specs.Prelude.{◌≡◌, ℕ, List, ◌++◌, Option, Some, None, Result, Ok, Err}
use Rattle.std.specs.List.{flat_map}
use Rattle.rh_model.specs.ClusterView.{ClusterView}
use Rattle.rh_cluster.specs.ClusterOf.{cluster_of}
use Rattle.rh_cluster.specs.declared.fault.ClusterFault.{ClusterFault}
use Rattle.rh_rules.specs.declared.pick.Pick.{Pick}
use Rattle.rh_trail.specs.SimView.{SimView}
use Rattle.rh_trail.specs.Lone.{opened}
use Rattle.rh_outcomes.specs.Outcomes.{outcome_in}
use Rattle.rh_plans.specs.declared.fault.SweepFault.{SweepFault}
use Rattle.rh_script.specs.Lines.{cluster_text, script_lines}
use Rattle.rh_script.specs.SweepLines.{PlanText, sweep_lines_asked, bad_sweep_line, plans_of}
use Rattle.rh_run.specs.declared.fault.Told.{Told}
use Rattle.rh_run.specs.SweepText.{why_not_swept, base_sim, sweep_end}
use Rattle.rh_json_lines.specs.ClusterLines.{cluster_line, fault_line}
use Rattle.rh_json_lines.specs.AnswerLines.{bad_json}
use Rattle.rh_json.specs.RunJson.{asked_in, answer_lines}
use Rattle.rh_json_lines.specs.OutcomeLines.{outcome_line, sweep_fault_line}

-- the line of a plan, tried from a base
abbrev pub plan_line : ClusterView → SimView → PlanText → List ℕ
plan_line c base plan = outcome_line c plan.name (outcome_in base plan.events)

-- those of all plans in their order, or why there is no sweep
abbrev pub plans_json : ClusterView → SimView → List PlanText → Option SweepFault → List ℕ
plans_json c base plans None = flat_map (plan_line c base) plans
plans_json c base plans (Some fault) = sweep_fault_line fault

-- what comes of the plans of lines behind their base
abbrev pub swept_json : ClusterView → Pick → List (List ℕ) → List ℕ
swept_json c pick lines =
    plans_json c (base_sim c pick (sweep_lines_asked c lines)) (plans_of (sweep_lines_asked c lines))
    (why_not_swept (base_sim c pick (sweep_lines_asked c lines)) (plans_of (sweep_lines_asked c lines)))

-- the cluster and the answers to the base's commands, as a run tells them: a run takes the line that begins the first plan, or a search,
-- for no command
abbrev pub base_json : ClusterView → Pick → List (List ℕ) → List ℕ
base_json c pick lines = cluster_line c ++ answer_lines c (opened c pick) (asked_in c 1 lines)

-- behind the cluster a bad line alone is told; else the base's answers, and then what comes of the plans
abbrev pub lines_json : ClusterView → Pick → List (List ℕ) → Option ℕ → List ℕ
lines_json c pick lines (Some k) = cluster_line c ++ bad_json k
lines_json c pick lines None = base_json c pick lines ++ swept_json c pick lines

-- the text for a cluster and a script, or for the fault of a text that is no cluster
abbrev pub swept_json_over : Pick → List (List ℕ) → Result ClusterView ClusterFault → List ℕ
swept_json_over pick lines (Ok c) = lines_json c pick lines (bad_sweep_line (sweep_lines_asked c lines))
swept_json_over pick lines (Err f) = fault_line f

-- what is written
unfoldable pub sweep_json : List ℕ → Pick → List ℕ
sweep_json bytes pick = swept_json_over pick (script_lines bytes) (cluster_of (cluster_text bytes))

-- what a sweep owes: how it ends is how one ends that writes lines
abbrev pub OwesSweepJson : Pick → List ℕ → List ℕ → Option Told → Type 0
OwesSweepJson pick bytes text owed = (text ≡ sweep_json bytes pick) × (owed ≡ sweep_end bytes pick)
