-- What the lines of a sweep ask: a base, and then plans (ours).
use Rattle.std.specs.Prelude.{◌≡◌, ℕ, List, [], ◌∷◌, ◌++◌, map, Bool, true, false, if◌then◌else◌, codes, Option, Some, None}
use Rattle.std.specs.Str.{bytes_eq, is_utf8}
use Rattle.rh_model.specs.ClusterView.{ClusterView}
use Rattle.rh_rules.specs.declared.event.Event.{Event}
use Rattle.rh_calls.specs.declared.call.Call.TheVariants as call
use Rattle.rh_plans.specs.declared.plan.Plan.{Plan}
use Rattle.rh_script.specs.declared.script.Line.{Line}
use Rattle.rh_script.specs.declared.script.Line.TheVariants as line
use Rattle.rh_script.specs.declared.sweep_lines.SweepLine.{SweepLine}
use Rattle.rh_script.specs.declared.sweep_lines.SweepLine.TheVariants as asks
use Rattle.rh_script.specs.declared.sweep_lines.SweepScript.{SweepScript}
use Rattle.rh_script.specs.declared.sweep_lines.SweepScript.TheVariants as script
use Rattle.rh_script.specs.Commands.{words_of, begins_with, command_of, calls_of}
use Rattle.rh_script.specs.Fitting.{first_unfit}

-- the name of the plan that the words `plan NAME` begin
abbrev pub plan_named : List (List ℕ) → Option (List ℕ)
plan_named [] = None
plan_named (word ∷ []) = None
plan_named (word ∷ name ∷ []) = if bytes_eq word (codes "plan") then Some name else None
plan_named (word ∷ name ∷ other ∷ more) = None

-- a line begins a plan, or is read as a line of any script
abbrev pub begun_or : Option (List ℕ) → Line → SweepLine
begun_or (Some name) read = asks.Begins name
begun_or None read = asks.Plain read

abbrev pub sweep_command : ClusterView → List (List ℕ) → SweepLine
sweep_command c words = begun_or (plan_named words) (command_of c words)

-- what a line asks; one that begins with `#` is a comment
unfoldable pub sweep_line_of : ClusterView → List ℕ → SweepLine
sweep_line_of c text =
    if begins_with 35 text then asks.Plain line.Nothing
    else if is_utf8 text then sweep_command c (words_of text)
    else asks.Plain line.Bad

abbrev pub sweep_lines_asked : ClusterView → List (List ℕ) → List SweepLine
sweep_lines_asked c lines = map (sweep_line_of c) lines

-- ---- which lines fit

-- a line of the base: any command, or nothing
abbrev pub fits_base : Line → Bool
fits_base line.Nothing = true
fits_base (line.Asks asked) = true
fits_base line.Bad = false

-- a line of a plan: an event, or nothing
abbrev pub fits_plan : Line → Bool
fits_plan line.Nothing = true
fits_plan (line.Asks (call.Step event)) = true
fits_plan (line.Asks call.Undo) = false
fits_plan (line.Asks call.Redo) = false
fits_plan (line.Asks call.UndoAll) = false
fits_plan (line.Asks call.RedoAll) = false
fits_plan (line.Asks call.Look) = false
fits_plan line.Bad = false

-- does a line fit where a plan was begun, or where none was?
abbrev pub fits_sweep : Bool → SweepLine → Bool
fits_sweep begun (asks.Begins name) = true
fits_sweep false (asks.Plain read) = fits_base read
fits_sweep true (asks.Plain read) = fits_plan read

-- was a plan begun by this line or before?
abbrev pub begun_by : Bool → SweepLine → Bool
begun_by begun (asks.Begins name) = true
begun_by begun (asks.Plain read) = begun

-- the number of the first line that doesn't fit
abbrev pub bad_sweep_line : List SweepLine → Option ℕ
bad_sweep_line lines = first_unfit fits_sweep begun_by 1 false lines

-- ---- the base and the plans

-- a plan's name, and its events in order
pub record PlanText : Type 0 where
  pub name : List ℕ
  pub events : List Event

abbrev pub plan_text : Plan → PlanText
plan_text plan = record { name = plan.name; events = plan.events.items }

-- the lines before the first that begins a plan
abbrev pub base_lines : List SweepLine → List Line
base_lines [] = []
base_lines (asks.Begins name ∷ lines) = []
base_lines (asks.Plain read ∷ lines) = read ∷ base_lines lines

-- the event of a line, if it is one
abbrev pub event_in : Line → List Event
event_in line.Nothing = []
event_in (line.Asks (call.Step event)) = event ∷ []
event_in (line.Asks call.Undo) = []
event_in (line.Asks call.Redo) = []
event_in (line.Asks call.UndoAll) = []
event_in (line.Asks call.RedoAll) = []
event_in (line.Asks call.Look) = []
event_in line.Bad = []

-- the events of the lines up to the next that begins a plan
abbrev pub plan_events : List SweepLine → List Event
plan_events [] = []
plan_events (asks.Begins name ∷ lines) = []
plan_events (asks.Plain read ∷ lines) = event_in read ++ plan_events lines

-- the plans, each with the events of the lines behind that which begins it
abbrev pub plans_of : List SweepLine → List PlanText
plans_of [] = []
plans_of (asks.Begins name ∷ lines) = record { name = name; events = plan_events lines } ∷ plans_of lines
plans_of (asks.Plain read ∷ lines) = plans_of lines

-- all lines fit, and this is their base and these are their plans; or this is the number of the first line that doesn't
abbrev pub IsSweepOf : List SweepLine → SweepScript → Type 0
IsSweepOf lines (script.Sweep base plans) =
    (bad_sweep_line lines ≡ None) × (base.items ≡ calls_of (base_lines lines)) × (map plan_text plans.items ≡ plans_of lines)
IsSweepOf lines (script.BadLine k) = bad_sweep_line lines ≡ Some k
