-- The states that a rehearsal passes through, in order: one behind each event, and in a tick one behind each timer that fires (ours).
use Rattle.std.specs.Prelude.{ℕ, zero, suc, ◌+◌, List, [], ◌∷◌, ◌++◌, length, take, Option, Some, None}
use Rattle.rh_state.specs.declared.status.Timer.{Timer}
use Rattle.rh_state.specs.First.{first}
use Rattle.rh_state.specs.StateView.{StateView, earliest}
use Rattle.rh_rules.specs.declared.event.Event.{Event}
use Rattle.rh_rules.specs.declared.event.Event.TheVariants.{Tick}
use Rattle.rh_rules.specs.declared.pick.Pick.{Pick}
use Rattle.rh_rules.specs.Time.{due_by}
use Rattle.rh_step.specs.Firings.{fired_in}
use Rattle.rh_step.specs.Runs.{step}
use Rattle.rh_trail.specs.SimView.{SimView}

-- no state is passed where no timer is due
abbrev pub if_found : Option (ℕ × Timer) → (ℕ × Timer → List StateView) → List StateView
if_found None rest = []
if_found (Some entry) rest = rest entry

-- the states behind the timers that are due by the limit, in the order in which they fire, at most so many
unfoldable pub behind_timers : Pick → ℕ → ℕ → StateView → List StateView
behind_timers pick zero limit s = []
behind_timers pick (suc most) limit s = if_found (due_by limit (earliest s))
    (λ entry. (fired_in pick s entry).state ∷ behind_timers pick most limit (fired_in pick s entry).state)

-- the states behind the firings of a tick; any other event has none
unfoldable pub behind_firings : Pick → StateView → Event → List StateView
behind_firings pick s (Tick ms) = behind_timers pick (length s.timers) (s.time + ms) s
behind_firings pick s e = []

-- the states that an event leads through: the last is the one behind it
abbrev pub passed_in : Pick → StateView → Event → List StateView
passed_in pick s e = behind_firings pick s e ++ step pick s e ∷ []

-- the states that events lead through, one after the other
unfoldable pub passed : Pick → StateView → List Event → List StateView
passed pick s [] = []
passed pick s (e ∷ es) = passed_in pick s e ++ passed pick (step pick s e) es

-- the states that a simulation has passed through, from the first state by the events that stand
abbrev pub states_of : SimView → List StateView
states_of s = passed s.pick (first s.cluster) (take s.cursor s.trail)
