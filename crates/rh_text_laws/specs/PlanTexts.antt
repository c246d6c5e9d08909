-- What `sweep` writes of a plan is written of what `run` writes for its base and its events (ours).
use Rattle.std.specs.Prelude.{◌≡◌, ℕ, List, [], ◌∷◌, ◌++◌, codes, None, Ok}
use Rattle.std.specs.List.{flat_map}
use Rattle.rh_model.specs.ClusterView.{ClusterView}
use Rattle.rh_cluster.specs.ClusterOf.{cluster_of}
use Rattle.rh_rules.specs.declared.pick.Pick.{Pick}
use Rattle.rh_state.specs.StateView.{StateView}
use Rattle.rh_rules.specs.declared.event.Event.{Event}
use Rattle.rh_calls.specs.declared.call.Call.{Call}
use Rattle.rh_calls.specs.declared.call.Call.TheVariants.{Look}
use Rattle.rh_trail.specs.SimView.{SimView}
use Rattle.rh_trail.specs.Lone.{opened, sim_after}
use Rattle.rh_calls.specs.Report.{report_text, app_lines}
use Rattle.rh_outcomes.specs.Outcomes.{steps}
use Rattle.rh_script.specs.Answers.{answer_text}
use Rattle.rh_script.specs.SweepAnswers.{plan_line, refused_line}
use Rattle.rh_script.specs.Commands.{calls_of}
use Rattle.rh_script.specs.Lines.{cluster_text, script_lines}
use Rattle.rh_script.specs.SweepLines.{PlanText, sweep_lines_asked, base_lines, plans_of}
use Rattle.rh_run.specs.RunText.{answers_text, lines_asked, run_text, run_end}
use Rattle.rh_run.specs.SweepText.{plan_outcome, sweep_text, sweep_end}
use Rattle.rh_text_laws.specs.Plans.{AnswersView, replies_of, events_answered, outcome_read}
use Rattle.rh_text_laws.specs.Plans.{IsAnswered}

-- `run` writes the answers to the base, then those to the plan's events up to the refused one, and then
-- the report to `show`; `sweep` writes of the plan what is counted in these answers, their refusal with
-- its place, and the report's lines of distributed applications
pub record IsWrittenAsRun
    (c : ClusterView) (pick : Pick) (calls : List Call) (plan : PlanText) : Type 0 where
  pub answers : AnswersView
  pub state : StateView
  pub answered : IsAnswered c pick calls plan.events answers state
  pub run :
      answers_text c (opened c pick)
      (calls ++ (steps (events_answered answers plan.events) ++ Look ∷ []))
      ≡ answers_text c (opened c pick) calls
      ++ (flat_map (answer_text c) (replies_of answers) ++ (codes "ok\n" ++ report_text state))
  pub sweep :
      plan_outcome c (sim_after (opened c pick) calls) plan
      ≡ plan_line plan.name (outcome_read answers state)
      ++ refused_line c (outcome_read answers state).refused
      ++ app_lines state

abbrev pub PlanTextIsRun : Type 0
PlanTextIsRun =
    (c : ClusterView) (pick : Pick) (calls : List Call) (plan : PlanText)
    → IsWrittenAsRun c pick calls plan

-- ---- whole inputs

-- the calls of the base of a sweep, the simulation behind them, and what `run` writes of them
abbrev pub base_calls : ClusterView → List ℕ → List Call
base_calls c bytes = calls_of (base_lines (sweep_lines_asked c (script_lines bytes)))

abbrev pub base_of : ClusterView → Pick → List ℕ → SimView
base_of c pick bytes = sim_after (opened c pick) (base_calls c bytes)

abbrev pub base_text : ClusterView → Pick → List ℕ → List ℕ
base_text c pick bytes = answers_text c (opened c pick) (base_calls c bytes)

-- an input of `run` has this cluster, and no bad line; it asks for the calls of a base, then for the
-- events of a plan up to the refused one, and at last for the report
pub record AsksForPlan
    (c : ClusterView) (calls : List Call) (events : List Event) (a : AnswersView)
    (bytes : List ℕ) : Type 0 where
  pub cluster : cluster_of (cluster_text bytes) ≡ Ok c
  pub ends : run_end bytes ≡ None
  pub asks :
      calls_of (lines_asked c (script_lines bytes))
      ≡ calls ++ (steps (events_answered a events) ++ Look ∷ [])

-- `sweep` writes the answers to its base, and then plan by plan; of this plan it writes what `run`
-- writes for each such input
pub record IsRunWithin
    (bytes : List ℕ) (c : ClusterView) (pick : Pick)
    (before : List PlanText) (plan : PlanText) (behind : List PlanText) : Type 0 where
  pub answers : AnswersView
  pub state : StateView
  pub answered : IsAnswered c pick (base_calls c bytes) plan.events answers state
  pub run :
      (input : List ℕ) → AsksForPlan c (base_calls c bytes) plan.events answers input
      → run_text input pick
      ≡ base_text c pick bytes
      ++ (flat_map (answer_text c) (replies_of answers) ++ (codes "ok\n" ++ report_text state))
  pub sweep :
      sweep_text bytes pick
      ≡ base_text c pick bytes
      ++ (flat_map (plan_outcome c (base_of c pick bytes)) before
      ++ (plan_line plan.name (outcome_read answers state)
      ++ refused_line c (outcome_read answers state).refused
      ++ app_lines state)
      ++ flat_map (plan_outcome c (base_of c pick bytes)) behind)

-- so it is with each plan of an input whose plans are swept
abbrev pub SweepIsRuns : Type 0
SweepIsRuns =
    (bytes : List ℕ) (c : ClusterView) (pick : Pick)
    (before : List PlanText) (plan : PlanText) (behind : List PlanText)
    → cluster_of (cluster_text bytes) ≡ Ok c → sweep_end bytes pick ≡ None
    → plans_of (sweep_lines_asked c (script_lines bytes)) ≡ before ++ plan ∷ behind
    → IsRunWithin bytes c pick before plan behind
