-- What a sweep on live nodes writes as JSON for the bytes that it reads, and how it ends (ours). How many workers there are has no part in
-- it.
use Rattle.std.specs.Prelude.{◌≡◌, ℕ, ◌+◌, List, [], ◌∷◌, ◌++◌, map, Bool, true, false, Option, Some, None, Result, Ok, Err}
use Rattle.std.specs.List.{flat_map}
use Rattle.rh_model.specs.ClusterView.{ClusterView}
use Rattle.rh_calls.specs.declared.call.Call.{Call}
use Rattle.rh_cluster.specs.ClusterOf.{cluster_of}
use Rattle.rh_cluster.specs.declared.fault.ClusterFault.{ClusterFault}
use Rattle.rh_devices.specs.declared.fault.WriteFault.{WriteFault}
use Rattle.rh_devices.specs.declared.watched.Watched.{Watched}
use Rattle.rh_devices.specs.Devices.{Passed, WroteFront}
use Rattle.rh_json.specs.RunJson.{Asked, asked_in}
use Rattle.rh_json_lines.specs.AnswerLines.{bad_json}
use Rattle.rh_json_lines.specs.ClusterLines.{cluster_line, fault_line}
use Rattle.rh_json_lines.specs.OutcomeLines.{sweep_fault_line}
use Rattle.rh_plans.specs.declared.fault.SweepFault.{SweepFault}
use Rattle.rh_script.specs.Lines.{cluster_text, script_lines}
use Rattle.rh_script.specs.SweepLines.{PlanText, sweep_lines_asked, bad_sweep_line, plans_of}
use Rattle.rh_run.specs.declared.fault.Told.{Told}
use Rattle.rh_otp_file.specs.Files.{own_files}
use Rattle.rh_otp_json.specs.LiveJson.{answer_lines}
use Rattle.rh_otp_net.specs.declared.order.Order.{Order}
use Rattle.rh_otp_sim.specs.Laws.{behind}
use Rattle.rh_otp_sim.specs.Sim.{LiveSimView, opened}
use Rattle.rh_otp_sweep.specs.Outcomes.{outcome_in}
use Rattle.rh_otp_plans.specs.LiveSweep.{why_not_swept, base_sim, live_sweep_end}
use Rattle.rh_otp_plans.specs.OutcomeJson.{outcome_line}

-- the line of a plan, tried from a base
abbrev pub plan_line : LiveSimView → PlanText → List ℕ
plan_line base plan = outcome_line base.cluster plan.name (outcome_in base plan.events)

-- those of all plans in their order, or why there is no sweep
abbrev pub plans_json : LiveSimView → List PlanText → Option SweepFault → List ℕ
plans_json base plans None = flat_map (plan_line base) plans
plans_json base plans (Some fault) = sweep_fault_line fault

-- what comes of the plans of lines behind their base
abbrev pub swept_json : LiveSimView → List (List ℕ) → List ℕ
swept_json sim lines =
    plans_json (base_sim sim (sweep_lines_asked sim.cluster lines)) (plans_of (sweep_lines_asked sim.cluster lines))
    (why_not_swept (base_sim sim (sweep_lines_asked sim.cluster lines)) (plans_of (sweep_lines_asked sim.cluster lines)))

-- what commands ask
abbrev pub calls_in : List Asked → List Call
calls_in asked = map (λ a. a.call) asked

-- the lines of the base's commands, as in a run: a run takes the line that begins the first plan for no command
abbrev pub base_json : LiveSimView → List (List ℕ) → List ℕ
base_json sim lines = answer_lines sim (asked_in sim.cluster 1 lines)

-- behind the cluster a bad line alone is told; else the base's answers, and then what comes of the plans
abbrev pub lines_json : LiveSimView → List (List ℕ) → Option ℕ → List ℕ
lines_json sim lines (Some k) = bad_json k
lines_json sim lines None = base_json sim lines ++ swept_json sim lines

-- the text for a cluster of this text and a script, or for the fault of a text that is no cluster
abbrev pub swept_json_over : Order → List ℕ → List (List ℕ) → Result ClusterView ClusterFault → List ℕ
swept_json_over order text lines (Ok c) =
    cluster_line c ++ lines_json (opened c (own_files c text) order) lines (bad_sweep_line (sweep_lines_asked c lines))
swept_json_over order text lines (Err f) = fault_line f

-- what is written, where messages are taken in this order
unfoldable pub live_sweep_json : Order → List ℕ → List ℕ
live_sweep_json order bytes = swept_json_over order (cluster_text bytes) (script_lines bytes) (cluster_of (cluster_text bytes))

-- what a sweep on live nodes owes: how it ends is how one ends that writes lines
abbrev pub OwesLiveSweepJson : Order → List ℕ → List ℕ → Option Told → Type 0
OwesLiveSweepJson order bytes text owed = (text ≡ live_sweep_json order bytes) × (owed ≡ live_sweep_end order bytes)

-- ---- how it is written

-- one line was answered, and the other lines are left; or no command is left
abbrev pub Turns : {K : Type 0} → (K → K → List ℕ → Type 0) → (K → K → Type 0) → Result Bool WriteFault
    → ClusterView → LiveSimView → LiveSimView → ℕ → List ℕ → List (List ℕ) → Watched K → Watched K → Type 0
Turns takes fails (Ok true) c sim later k line lines old new =
    (piece : List ℕ) × Passed takes old.inner new.inner piece
    × (answer_lines sim (asked_in c k (line ∷ lines)) ≡ piece ++ answer_lines later (asked_in c (k + 1) lines))
    × (behind (calls_in (asked_in c k (line ∷ lines))) sim ≡ behind (calls_in (asked_in c (k + 1) lines)) later) × (new.failed ≡ false)
Turns takes fails (Ok false) c sim later k line lines old new = (asked_in c k (line ∷ lines) ≡ []) × (later ≡ sim) × (new ≡ old)
Turns takes fails (Err f) c sim later k line lines old new = WroteFront takes fails f (answer_lines sim (asked_in c k (line ∷ lines))) old new
