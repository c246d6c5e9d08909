-- Plans on live nodes beside runs (ours).
use Rattle.std.specs.Prelude.{◌≡◌, ◌≤◌, ◌+◌, ℕ, List, length, take, map}
use Rattle.rh_calls.specs.declared.call.Call.{Call}
use Rattle.rh_calls.specs.declared.call.Call.TheVariants as call
use Rattle.rh_rules.specs.declared.event.Event.{Event}
use Rattle.rh_otp_report.specs.Report.{report_of}
use Rattle.rh_otp_sim.specs.Laws.{behind}
use Rattle.rh_otp_sim.specs.Sim.{LiveSimView}
use Rattle.rh_otp_sweep.specs.declared.sharing.TheConstants.{STEP_LIMIT}
use Rattle.rh_otp_sweep.specs.Outcomes.{course_of, told, outcome_in}

-- the simulation behind the first events of a list, given as a run gives its commands
abbrev pub behind_first : ℕ → List Event → LiveSimView → LiveSimView
behind_first made events sim = behind (map (λ e. call.Step e) (take made events)) sim

-- The outcome of a plan tells how its events go behind the base as it is, past and all, and of the state that a run reaches by those that
-- are made.
abbrev pub PlansAreRuns : Type 0
PlansAreRuns = (base : LiveSimView) (events : List Event) → base.history.cursor + length events ≤ STEP_LIMIT
    → outcome_in base events
    ≡ told (course_of 0 base events) (report_of (behind_first (course_of 0 base events).accepted events base))
