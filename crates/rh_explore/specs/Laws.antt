-- Laws of what is reached (ours).
use Rattle.std.specs.Prelude.{◌≡◌, ◌⊎◌, ◌↔◌, ◌<◌, ◌≤◌, ◌+◌, ℕ, true, List, map, Option, Some, None, All}
use Rattle.rh_state.specs.StateView.{StateView}
use Rattle.rh_rules.specs.declared.event.Event.{Event}
use Rattle.rh_rules.specs.declared.event.Event.TheVariants.{Tick}
use Rattle.rh_rules.specs.declared.pick.Pick.{Pick}
use Rattle.rh_step.specs.Runs.{step}
use Rattle.rh_trace.specs.Validity.{IsValid}
use Rattle.rh_explore.specs.declared.answers.Explored.{Explored}
use Rattle.rh_explore.specs.declared.answers.Verdict.{Verdict}
use Rattle.rh_explore.specs.declared.answers.Verdict.TheVariants.{Holds, Fails}
use Rattle.rh_explore.specs.declared.asking.Ask.{Ask}
use Rattle.rh_explore.specs.declared.bounds.Bounds.{Bounds}
use Rattle.rh_explore.specs.Asking.{MayWait, is_met, is_met_by}
use Rattle.rh_explore.specs.Exploring.{IsAnswer, StaysBelowLimits}
use Rattle.rh_explore.specs.Reaching.{Scope, MayCome, MayAllCome, Reaches, behind}

-- no event leads to the base; what some events reach, more may; and an event more that may come reaches one step further
pub record ReachesGoOn : Type 0 where
  pub base : (w : Scope) → Reaches w 0 w.base
  pub more : (w : Scope) (n m : ℕ) (s : StateView) → n ≤ m → Reaches w n s → Reaches w m s
  pub further : (w : Scope) (n : ℕ) (s : StateView) (e : Event) → Reaches w n s → MayCome w s e → Reaches w (n + 1) (step w.pick s e)

-- some tick of at most so many milliseconds leads to where what is asked is met
abbrev pub IsMetBehindATick : Pick → Ask → ℕ → StateView → Type 0
IsMetBehindATick pick ask ms s = (t : ℕ) × (0 < t) × (t ≤ ms) × (is_met ask (step pick s (Tick t)) ≡ true)

-- what is to be met within so many milliseconds is met exactly where it is at once, or behind some tick of at most as many, where the
-- limit of time lets it wait: what passes between two timers needn't be looked at
abbrev pub IsMetInTime : Type 0
IsMetInTime =
    (s : StateView) (pick : Pick) (ask : Ask) (ms : ℕ) → IsValid s → MayWait (Some ms) s
    → (is_met_by pick ask (Some ms) s ≡ true) ↔ ((is_met ask s ≡ true) ⊎ IsMetBehindATick pick ask ms s)

-- the events that a verdict tells, if it tells any
abbrev pub told_of : Verdict → Option (List Event)
told_of Holds = None
told_of (Fails es) = Some es.items

-- two answers tell the same
pub record TellTheSame (x y : Explored) : Type 0 where
  pub states : x.states ≡ y.states
  pub bytes : x.bytes ≡ y.bytes
  pub deepest : x.deepest ≡ y.deepest
  pub covered : x.covered ≡ y.covered
  pub verdicts : map told_of x.verdicts.items ≡ map told_of y.verdicts.items

-- the limit of time lets an ask wait behind all events that may come
abbrev pub MayAlwaysWait : Scope → Ask → Type 0
MayAlwaysWait w ask = (es : List Event) → MayAllCome w w.base es → MayWait ask.within (behind w w.base es)

-- a search has one answer, whoever makes it, where no limit of starts or of time is near
abbrev pub AnswersAreOne : Type 0
AnswersAreOne =
    (w : Scope) (bounds : Bounds) (asks : List Ask) (x y : Explored) → IsValid w.base → StaysBelowLimits w bounds.steps → All (MayAlwaysWait w) asks
    → IsAnswer w bounds asks x → IsAnswer w bounds asks y → TellTheSame x y
