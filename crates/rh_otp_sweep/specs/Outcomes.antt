-- What comes of a plan on live nodes: its events are given one after the other, whatever they are answered, up to the first that changes
-- nothing (ours).
use Rattle.std.specs.Prelude.{ℕ, ◌+◌, List, [], ◌∷◌, ◌||◌, Bool, false, Option, Some, None, is_some, if◌then◌else◌}
use Rattle.std.specs.List.{filter_map}
use Rattle.rh_plans.specs.declared.plan.Plan.{Plan}
use Rattle.rh_rules.specs.declared.event.Event.{Event}
use Rattle.rh_otp_report.specs.declared.calls.OpenCall.{OpenCall}
use Rattle.rh_otp_report.specs.Report.{report_of}
use Rattle.rh_otp_report.specs.Views.{NodeReportView, AppReportView, ReportView}
use Rattle.rh_otp_sim.specs.declared.lines.Answer.{Answer}
use Rattle.rh_otp_sim.specs.declared.lines.Answer.TheVariants as answer
use Rattle.rh_otp_sim.specs.declared.stepping.Outcome.{Outcome}
use Rattle.rh_otp_sim.specs.declared.stepping.Outcome.TheVariants as outcome
use Rattle.rh_otp_sim.specs.Sim.{LiveSimView, without_past}
use Rattle.rh_otp_sim.specs.Stepping.{stepped, outcome_of as comes_to}
use Rattle.rh_otp_sim.specs.Verdicts.{is_done}
use Rattle.rh_otp_sweep.specs.declared.outcome.EventAnswer.{EventAnswer}
use Rattle.rh_otp_sweep.specs.declared.outcome.Hang.{Hang}
use Rattle.rh_otp_sweep.specs.declared.outcome.Stop.{Stop}
use Rattle.rh_otp_sweep.specs.declared.outcome.Stop.TheVariants as stop

-- ---- the events

-- is it `ok`?
abbrev pub is_ok : Answer → Bool
is_ok (answer.Told verdict) = is_done verdict
is_ok answer.NoAnswer = false

-- how far a plan came: how many events were made, those that weren't answered by `ok`, why it ended before its last one, if it did, and the
-- simulation then
pub record Course : Type 0 where
  pub accepted : ℕ
  pub answers : List EventAnswer
  pub stop : Option Stop
  pub sim : LiveSimView

-- it ends here, behind so many events
abbrev pub ended : ℕ → Option Stop → LiveSimView → Course
ended made why sim = record { accepted = made; answers = []; stop = why; sim = sim }

-- the event of this number was made and answered so, and the plan went on like this
abbrev pub answered : ℕ → Answer → Course → Course
answered number told later =
    if is_ok told then later else record later { answers = record { event = number; answer = told } ∷ later.answers }

-- behind so many events the next one comes to this, and if it was made the plan goes on like this
abbrev pub course_by : ℕ → LiveSimView → Outcome → Course → Course
course_by made sim (outcome.Refused refusal) later = ended made (Some (stop.Refused refusal)) sim
course_by made sim outcome.Endless later = ended made (Some stop.Endless) sim
course_by made sim (outcome.Done happened) later = answered (made + 1) happened.answer later

-- these events are given one after the other, behind so many
unfoldable pub course_of : ℕ → LiveSimView → List Event → Course
course_of made sim [] = ended made None sim
course_of made sim (e ∷ events) = course_by made sim (comes_to e sim) (course_of (made + 1) (stepped e sim) events)

-- ---- the state behind them

-- what hangs at a node, if something does
abbrev pub hang_at : NodeReportView → Option Hang
hang_at r = if is_some r.block || is_some r.boot then Some (record { node = r.node; block = r.block; boot = r.boot }) else None

-- at all nodes, in the order of the file
abbrev pub hangs_in : List NodeReportView → List Hang
hangs_in nodes = filter_map hang_at nodes

-- ---- the outcome

-- what comes of a plan: how many events were made, those that weren't answered by `ok`, why it ended, where the distributed applications run
-- then, what hangs, and which calls are open
pub record LiveOutcomeView : Type 0 where
  pub accepted : ℕ
  pub answers : List EventAnswer
  pub stop : Option Stop
  pub apps : List AppReportView
  pub hangs : List Hang
  pub calls : List OpenCall

-- how far it came, with what is told of the state then
abbrev pub told : Course → ReportView → LiveOutcomeView
told course report = record {
  accepted = course.accepted;
  answers = course.answers;
  stop = course.stop;
  apps = report.apps;
  hangs = hangs_in report.nodes;
  calls = report.calls;
}

-- from the base without its past, so that nothing depends on how many steps it took
unfoldable pub outcome_in : LiveSimView → List Event → LiveOutcomeView
outcome_in base events = told (course_of 0 (without_past base) events) (report_of (course_of 0 (without_past base) events).sim)

abbrev pub outcome_of : LiveSimView → Plan → LiveOutcomeView
outcome_of base plan = outcome_in base plan.events.items
