-- What is said within the reading of a sweep, where some lines are left (ours).
use Rattle.std.specs.Prelude.{List, [], ◌∷◌, ◌++◌, Bool, true, false}
use Rattle.rh_rules.specs.declared.event.Event.{Event}
use Rattle.rh_calls.specs.declared.call.Call.{Call}
use Rattle.rh_script.specs.declared.sweep_lines.SweepLine.{SweepLine}
use Rattle.rh_script.specs.Commands.{calls_of}
use Rattle.rh_script.specs.SweepLines.{PlanText, base_lines, plan_events, plans_of}

-- the last plan goes on with these events
abbrev pub with_events : List PlanText → List Event → List PlanText
with_events [] events = []
with_events (plan ∷ []) events = record { name = plan.name; events = plan.events ++ events } ∷ []
with_events (plan ∷ next ∷ plans) events = plan ∷ with_events (next ∷ plans) events

pub record SweepView : Type 0 where
  pub base : List Call
  pub plans : List PlanText

-- the base and the plans, of which this much was read, and these lines are left
abbrev pub read_on : List Call → List PlanText → List SweepLine → SweepView
read_on base [] lines = record { base = base ++ calls_of (base_lines lines); plans = plans_of lines }
read_on base (plan ∷ plans) lines = record { base = base; plans = with_events (plan ∷ plans) (plan_events lines) ++ plans_of lines }

-- was a plan begun?
abbrev pub is_begun : List PlanText → Bool
is_begun [] = false
is_begun (plan ∷ plans) = true
