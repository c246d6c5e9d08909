-- What a sweep writes for the bytes that it reads, and how it ends (ours). How many workers there are has no part in it.
use Rattle.std.specs.Prelude.{◌≡◌, ℕ, ◌+◌, List, ◌++◌, length, Bool, ◌==◌, nat_le, if◌then◌else◌, Option, Some, None, Result, Ok, Err}
use Rattle.std.specs.List.{flat_map, list_all}
use Rattle.std.specs.Option.{option_map}
use Rattle.rh_model.specs.ClusterView.{ClusterView}
use Rattle.rh_cluster.specs.ClusterOf.{cluster_of}
use Rattle.rh_cluster.specs.declared.fault.ClusterFault.{ClusterFault}
use Rattle.rh_rules.specs.declared.pick.Pick.{Pick}
use Rattle.rh_trail.specs.SimView.{SimView}
use Rattle.rh_trail.specs.Lone.{opened, sim_after, trail_limit}
use Rattle.rh_outcomes.specs.Outcomes.{outcome_in}
use Rattle.rh_plans.specs.declared.fault.SweepFault.{SweepFault}
use Rattle.rh_plans.specs.declared.fault.SweepFault.TheVariants.{BaseNotAtEnd, TrailRoom}
use Rattle.rh_script.specs.declared.sweep_lines.SweepLine.{SweepLine}
use Rattle.rh_script.specs.Lines.{cluster_text, script_lines}
use Rattle.rh_script.specs.Commands.{calls_of}
use Rattle.rh_script.specs.Answers.{fault_text, bad_text}
use Rattle.rh_script.specs.SweepLines.{PlanText, sweep_lines_asked, bad_sweep_line, base_lines, plans_of}
use Rattle.rh_script.specs.SweepAnswers.{outcome_text, sweep_fault_text}
use Rattle.rh_run.specs.declared.fault.Told.{Told}
use Rattle.rh_run.specs.declared.fault.Told.TheVariants as told
use Rattle.rh_run.specs.RunText.{answers_text}

-- the base's trail has room for the events of a plan
abbrev pub has_room : SimView → PlanText → Bool
has_room base plan = nat_le (base.cursor + length plan.events) trail_limit

-- why the plans can't be swept from a base, if they can't
abbrev pub why_not_swept : SimView → List PlanText → Option SweepFault
why_not_swept base plans =
    if base.cursor == length base.trail then (if list_all (has_room base) plans then None else Some TrailRoom)
    else Some BaseNotAtEnd

-- a plan with its outcome
abbrev pub plan_outcome : ClusterView → SimView → PlanText → List ℕ
plan_outcome c base plan = outcome_text c plan.name (outcome_in base plan.events)

-- all of them in their order, or why there is no sweep
abbrev pub plans_text : ClusterView → SimView → List PlanText → Option SweepFault → List ℕ
plans_text c base plans None = flat_map (plan_outcome c base) plans
plans_text c base plans (Some fault) = sweep_fault_text fault

-- and the fault that this tells
abbrev pub plans_end : SimView → List PlanText → Option Told
plans_end base plans = option_map (λ f. told.Sweep f) (why_not_swept base plans)

-- the simulation behind the commands of the base
abbrev pub base_sim : ClusterView → Pick → List SweepLine → SimView
base_sim c pick lines = sim_after (opened c pick) (calls_of (base_lines lines))

-- a bad line alone is told; else the answers to the base's commands, as in a run, and then what comes of the plans
abbrev pub lines_text : ClusterView → Pick → List SweepLine → Option ℕ → List ℕ
lines_text c pick lines (Some k) = bad_text k
lines_text c pick lines None =
    answers_text c (opened c pick) (calls_of (base_lines lines))
    ++ plans_text c (base_sim c pick lines) (plans_of lines) (why_not_swept (base_sim c pick lines) (plans_of lines))

-- and the fault that it tells
abbrev pub lines_end : ClusterView → Pick → List SweepLine → Option ℕ → Option Told
lines_end c pick lines (Some k) = Some (told.BadLine k)
lines_end c pick lines None = plans_end (base_sim c pick lines) (plans_of lines)

-- the text for a cluster and a script, or for the fault of a text that is no cluster
abbrev pub swept_over : Pick → List (List ℕ) → Result ClusterView ClusterFault → List ℕ
swept_over pick lines (Ok c) = lines_text c pick (sweep_lines_asked c lines) (bad_sweep_line (sweep_lines_asked c lines))
swept_over pick lines (Err f) = fault_text f

-- and the fault that it tells
abbrev pub swept_end_over : Pick → List (List ℕ) → Result ClusterView ClusterFault → Option Told
swept_end_over pick lines (Ok c) = lines_end c pick (sweep_lines_asked c lines) (bad_sweep_line (sweep_lines_asked c lines))
swept_end_over pick lines (Err f) = Some (told.Cluster f)

-- what is written
unfoldable pub sweep_text : List ℕ → Pick → List ℕ
sweep_text bytes pick = swept_over pick (script_lines bytes) (cluster_of (cluster_text bytes))

-- and the fault at the end, if there is one
unfoldable pub sweep_end : List ℕ → Pick → Option Told
sweep_end bytes pick = swept_end_over pick (script_lines bytes) (cluster_of (cluster_text bytes))

-- what a sweep owes
abbrev pub OwesSweep : Pick → List ℕ → List ℕ → Option Told → Type 0
OwesSweep pick bytes text owed = (text ≡ sweep_text bytes pick) × (owed ≡ sweep_end bytes pick)
