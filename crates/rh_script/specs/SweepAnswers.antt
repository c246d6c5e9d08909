-- The texts of plans and their outcomes, in a plan's order of events and applications (ours).
use Rattle.std.specs.Prelude.{ℕ, ◌+◌, List, [], ◌++◌, codes, Option, Some, None}
use Rattle.std.specs.List.{flat_map}
use Rattle.std.specs.Fmt.{decimal}
use Rattle.rh_model.specs.ClusterView.{ClusterView}
use Rattle.rh_rules.specs.declared.refusal.Refusal.{Refusal}
use Rattle.rh_rules.specs.Refusals.{refusal_words}
use Rattle.rh_calls.specs.Report.{standing_line}
use Rattle.rh_plans.specs.declared.fault.SweepFault.{SweepFault}
use Rattle.rh_plans.specs.declared.plan.Outcome.{Outcome}
use Rattle.rh_plans.specs.FaultWords.{fault_words}
use Rattle.rh_script.specs.Answers.{reason_words}

-- what was counted, behind its word
abbrev pub counted : List ℕ → ℕ → List ℕ
counted word count = codes " " ++ word ++ codes " " ++ decimal count

-- the plan, and what was counted
unfoldable pub plan_line : List ℕ → Outcome → List ℕ
plan_line name o =
    codes "plan " ++ name ++ counted (codes "accepted") o.accepted ++ counted (codes "failovers") o.failovers ++ counted (codes "takeovers") o.takeovers
    ++ codes "\n"

-- the refused event, counted from 1, and why it was refused
unfoldable pub refused_line : ClusterView → Option (ℕ × Refusal) → List ℕ
refused_line c None = []
refused_line c (Some (place, refusal)) =
    codes "refused " ++ decimal (place + 1) ++ codes " " ++ refusal_words refusal ++ reason_words c refusal ++ codes "\n"

-- and then where each distributed application stands, as in the report
unfoldable pub outcome_text : ClusterView → List ℕ → Outcome → List ℕ
outcome_text c name o = plan_line name o ++ refused_line c o.refused ++ flat_map (λ at. standing_line c at.0 at.1) o.standings

-- why there is no sweep
unfoldable pub sweep_fault_text : SweepFault → List ℕ
sweep_fault_text f = codes "sweep refused " ++ fault_words f ++ codes "\n"
