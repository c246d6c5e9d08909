-- What a sweep on live nodes writes for the bytes that it reads, and how it ends (ours). How many workers there are has no part in it.
use Rattle.std.specs.Prelude.{◌≡◌, ℕ, ◌+◌, List, ◌++◌, length, Bool, nat_le, if◌then◌else◌, Option, Some, None, Result, Ok, Err}
use Rattle.std.specs.List.{flat_map, list_all}
use Rattle.std.specs.Option.{option_map}
use Rattle.rh_model.specs.ClusterView.{ClusterView}
use Rattle.rh_cluster.specs.ClusterOf.{cluster_of}
use Rattle.rh_cluster.specs.declared.fault.ClusterFault.{ClusterFault}
use Rattle.rh_plans.specs.declared.fault.SweepFault.{SweepFault}
use Rattle.rh_plans.specs.declared.fault.SweepFault.TheVariants.{BaseNotAtEnd, TrailRoom}
use Rattle.rh_script.specs.declared.sweep_lines.SweepLine.{SweepLine}
use Rattle.rh_script.specs.Lines.{cluster_text, script_lines}
use Rattle.rh_script.specs.Commands.{calls_of}
use Rattle.rh_script.specs.Answers.{fault_text, bad_text}
use Rattle.rh_script.specs.SweepLines.{PlanText, sweep_lines_asked, bad_sweep_line, base_lines, plans_of}
use Rattle.rh_script.specs.SweepAnswers.{sweep_fault_text}
use Rattle.rh_run.specs.declared.fault.Told.{Told}
use Rattle.rh_run.specs.declared.fault.Told.TheVariants as told
use Rattle.rh_otp_file.specs.Files.{own_files}
use Rattle.rh_otp_net.specs.declared.order.Order.{Order}
use Rattle.rh_otp_run.specs.Laws.{answers_text}
use Rattle.rh_otp_sim.specs.Laws.{behind}
use Rattle.rh_otp_sim.specs.Sim.{LiveSimView, opened, can_redo}
use Rattle.rh_otp_sweep.specs.declared.sharing.TheConstants.{STEP_LIMIT}
use Rattle.rh_otp_sweep.specs.Outcomes.{outcome_in}
use Rattle.rh_otp_plans.specs.OutcomeText.{outcome_text}

-- ---- the plans

-- the base's steps and the events of a plan are no more than there may be
abbrev pub has_room : LiveSimView → PlanText → Bool
has_room base plan = nat_le (base.history.cursor + length plan.events) STEP_LIMIT

-- why the plans can't be swept from a base, if they can't
abbrev pub why_not_swept : LiveSimView → List PlanText → Option SweepFault
why_not_swept base plans =
    if can_redo base then Some BaseNotAtEnd else (if list_all (has_room base) plans then None else Some TrailRoom)

-- a plan with its outcome
abbrev pub plan_outcome : LiveSimView → PlanText → List ℕ
plan_outcome base plan = outcome_text base.cluster plan.name (outcome_in base plan.events)

-- all of them in their order, or why there is no sweep
abbrev pub plans_text : LiveSimView → List PlanText → Option SweepFault → List ℕ
plans_text base plans None = flat_map (plan_outcome base) plans
plans_text base plans (Some fault) = sweep_fault_text fault

-- and the fault that this tells
abbrev pub plans_end : LiveSimView → List PlanText → Option Told
plans_end base plans = option_map (λ f. told.Sweep f) (why_not_swept base plans)

-- ---- the script

-- the simulation behind the commands of the base
abbrev pub base_sim : LiveSimView → List SweepLine → LiveSimView
base_sim sim lines = behind (calls_of (base_lines lines)) sim

-- what comes of the plans behind the base
abbrev pub swept_text : LiveSimView → List SweepLine → List ℕ
swept_text sim lines = plans_text (base_sim sim lines) (plans_of lines) (why_not_swept (base_sim sim lines) (plans_of lines))

-- a bad line alone is told; else the answers to the base's commands, as in a run, and then what comes of the plans
abbrev pub lines_text : LiveSimView → List SweepLine → Option ℕ → List ℕ
lines_text sim lines (Some k) = bad_text k
lines_text sim lines None = answers_text sim (calls_of (base_lines lines)) ++ swept_text sim lines

-- and the fault that it tells
abbrev pub lines_end : LiveSimView → List SweepLine → Option ℕ → Option Told
lines_end sim lines (Some k) = Some (told.BadLine k)
lines_end sim lines None = plans_end (base_sim sim lines) (plans_of lines)

-- ---- of a whole input

-- the text for a cluster of this text and a script, or for the fault of a text that is no cluster
abbrev pub swept_over : Order → List ℕ → List (List ℕ) → Result ClusterView ClusterFault → List ℕ
swept_over order text lines (Ok c) =
    lines_text (opened c (own_files c text) order) (sweep_lines_asked c lines) (bad_sweep_line (sweep_lines_asked c lines))
swept_over order text lines (Err f) = fault_text f

-- and the fault that it tells
abbrev pub swept_end_over : Order → List ℕ → List (List ℕ) → Result ClusterView ClusterFault → Option Told
swept_end_over order text lines (Ok c) =
    lines_end (opened c (own_files c text) order) (sweep_lines_asked c lines) (bad_sweep_line (sweep_lines_asked c lines))
swept_end_over order text lines (Err f) = Some (told.Cluster f)

-- what is written, where messages are taken in this order
unfoldable pub live_sweep_text : Order → List ℕ → List ℕ
live_sweep_text order bytes = swept_over order (cluster_text bytes) (script_lines bytes) (cluster_of (cluster_text bytes))

-- and the fault at the end, if there is one
unfoldable pub live_sweep_end : Order → List ℕ → Option Told
live_sweep_end order bytes = swept_end_over order (cluster_text bytes) (script_lines bytes) (cluster_of (cluster_text bytes))

-- what a sweep on live nodes owes
abbrev pub OwesLiveSweep : Order → List ℕ → List ℕ → Option Told → Type 0
OwesLiveSweep order bytes text owed = (text ≡ live_sweep_text order bytes) × (owed ≡ live_sweep_end order bytes)
