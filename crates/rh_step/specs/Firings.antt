-- The timers that fire in a tick, each with when it was due and what was told then (ours).
use Rattle.std.specs.Prelude.{◌≡◌, ◌≤◌, ◌+◌, ℕ, zero, suc, List, [], ◌∷◌, length, take, flat_map, Option, Some, None, All}
use Rattle.std.specs.List.Sorted.{IsNonDecreasingBy}
use Rattle.rh_state.specs.declared.status.Timer.{Timer}
use Rattle.rh_state.specs.StateView.{StateView, earliest}
use Rattle.rh_rules.specs.declared.pick.Pick.{Pick}
use Rattle.rh_rules.specs.declared.notice.Notice.{Notice}
use Rattle.rh_rules.specs.Course.{Course, course_of}
use Rattle.rh_trace.specs.Validity.{IsValid}
use Rattle.rh_rules.specs.declared.event.Event.TheVariants.{Tick}
use Rattle.rh_rules.specs.Refusals.{refused}
use Rattle.rh_rules.specs.Time.{due_by, fired, fired_by}
use Rattle.rh_rules.specs.Steps.{next}

-- a timer that fired: when it was due, and what was told from there until all had settled
pub record FiringView : Type 0 where
  pub due : ℕ
  pub told : List Notice

abbrev pub firing : ℕ → List Notice → FiringView
firing due told = record { due = due; told = told }

-- a timer fires in a state, before which nothing was told
abbrev pub fired_in : Pick → StateView → ℕ × Timer → Course
fired_in pick s entry = fired pick (course_of s [] []) entry

-- none fires where none is due
abbrev pub if_due : Option (ℕ × Timer) → (ℕ × Timer → List FiringView) → List FiringView
if_due None rest = []
if_due (Some entry) rest = rest entry

-- the timers that are due by the limit, in the order in which they fire, at most so many
unfoldable pub firings_by : Pick → ℕ → ℕ → StateView → List FiringView
firings_by pick zero limit s = []
firings_by pick (suc most) limit s = if_due (due_by limit (earliest s))
    (λ entry. firing entry.0 (fired_in pick s entry).notices ∷ firings_by pick most limit (fired_in pick s entry).state)

-- those of a tick: a timer that fires sets no other, so there are at most as many as are set
unfoldable pub firings : StateView → ℕ → Pick → List FiringView
firings s ms pick = firings_by pick (length s.timers) (s.time + ms) s

-- what they told, times left out
abbrev pub told_by : List FiringView → List Notice
told_by fs = flat_map (λ (f : FiringView). f.told) fs

-- the firings are those of the tick: behind the first k of them just this was told, and behind all of them all that the tick tells
abbrev pub FiringsTellTheTick : Type 0
FiringsTellTheTick = (s : StateView) (ms : ℕ) (pick : Pick) → IsValid s → refused s (Tick ms) ≡ None
    → (told_by (firings s ms pick) ≡ (next s (Tick ms) pick).notices)
    × ((k : ℕ) → told_by (take k (firings s ms pick)) ≡ (fired_by pick k (s.time + ms) (course_of s [] [])).notices)

-- the firings are in the order of time, none before the tick begins and none behind its end
abbrev pub FiringsAreInTime : Type 0
FiringsAreInTime = (s : StateView) (ms : ℕ) (pick : Pick) → IsValid s → refused s (Tick ms) ≡ None
    → IsNonDecreasingBy (λ f. f.due) (firings s ms pick)
    × All (λ f. s.time ≤ f.due) (firings s ms pick)
    × All (λ f. f.due ≤ s.time + ms) (firings s ms pick)
