-- How many edits a step keeps (ours).
use Rattle.std.specs.Prelude.{ℕ, ◌+◌, ◌-◌, ◌*◌, length}
use Rattle.rh_state.specs.StateView.{StateView}
use Rattle.rh_trace.specs.Counts.{weights}
use Rattle.rh_rules.specs.declared.event.Event.{Event}
use Rattle.rh_rules.specs.declared.event.Event.TheVariants.{Tick}
use Rattle.rh_events.specs.Counts.{own_edits}
use Rattle.rh_rules.specs.Steps.{Outcome}

-- those that a step from s to t keeps beside those for what it tells: the event's own; for a tick one for the time, and three
-- for each timer that is set no longer, as each that fired
abbrev pub step_edits : StateView → Event → StateView → ℕ
step_edits s (Tick ms) t = 1 + 3 * (length s.timers - length t.timers)
step_edits s e t = own_edits s.cluster e

-- all of them, at most: four for each unit of the weight of what is told, and those
abbrev pub most_edits : StateView → Event → Outcome → ℕ
most_edits s e p = 4 * weights s.cluster p.notices + step_edits s e p.state
