-- What a search answers (ours).
use Rattle.std.specs.Prelude.{◌≡◌, ◌⊎◌, ◌≤◌, ◌<◌, ◌*◌, ℕ, true, false, List, length, sum_by, take, slice_get, Some, All, Any, AllPairs, Contains}
use Rattle.std.specs.List.{AllZip}
use Rattle.rh_state.specs.StateView.{StateView}
use Rattle.rh_state.specs.Stored.{read}
use Rattle.rh_rules.specs.declared.event.Event.{Event}
use Rattle.rh_step.specs.Runs.{step}
use Rattle.rh_keys.specs.Codes.{code}
use Rattle.rh_keys.specs.Packed.{packed_key}
use Rattle.rh_keys.specs.Shifts.{Alike}
use Rattle.rh_keys.specs.ShiftLaws.{meets_limit}
use Rattle.rh_explore.specs.declared.answers.Explored.{Explored}
use Rattle.rh_explore.specs.declared.answers.Verdict.{Verdict}
use Rattle.rh_explore.specs.declared.answers.Verdict.TheVariants.{Holds, Fails}
use Rattle.rh_explore.specs.declared.asking.Ask.{Ask}
use Rattle.rh_explore.specs.declared.search.Search.{Search}
use Rattle.rh_explore.specs.declared.bounds.Bounds.{Bounds}
use Rattle.rh_explore.specs.declared.bounds.Covered.{Covered}
use Rattle.rh_explore.specs.declared.bounds.Covered.TheVariants as covered
use Rattle.rh_explore.specs.Asking.{holds_in, MayWait}
use Rattle.rh_explore.specs.Reaching.{Scope, IsMove, MayCome, MayAllCome, Reaches, behind}
use Rattle.rh_explore.specs.Before.{ComesBefore}

-- the key of a state, as it is kept, and how many bytes it has
abbrev pub key_of : StateView → List ℕ
key_of s = code (packed_key s)

abbrev pub key_length : StateView → ℕ
key_length s = length (key_of s)

-- how many bytes the keys of all states may have
abbrev pub most_bytes : Bounds → ℕ
most_bytes bounds = bounds.mebibytes * 1048576

-- the scope of a search
abbrev pub scope_of : Search → Scope
scope_of search = record { base = read search.base.now; pick = search.pick; moves = search.moves.now; down = search.bounds.down }

-- the list is one of those of which all were looked at
abbrev pub IsCovered : Covered → List Event → Type 0
IsCovered covered.All es = Unit {0}
IsCovered (covered.UpTo n) es = length es ≤ n

-- no list of at most so many events was left out
abbrev pub CoversAll : ℕ → Covered → Type 0
CoversAll steps covered.All = Unit {0}
CoversAll steps (covered.UpTo n) = steps ≤ n

-- no limit of starts or of time refuses an event behind fewer events than these
abbrev pub StaysBelowLimits : Scope → ℕ → Type 0
StaysBelowLimits w steps =
    (es : List Event) (e : Event) → MayAllCome w w.base es → length es < steps → IsMove w (behind w w.base es) e
    → meets_limit (behind w w.base es) e ≡ false

-- what is asked holds in each state to which one of the covered lists leads, where the limit of time lets it wait for that
abbrev pub HoldsWithin : Scope → Covered → Ask → Type 0
HoldsWithin w covered ask =
    (es : List Event) → MayAllCome w w.base es → IsCovered covered es → MayWait ask.within (behind w w.base es)
    → holds_in w.pick ask (behind w w.base es) ≡ true

-- ---- what is told of an ask

-- these events may come, at most so many, and lead to a state in which what is asked doesn't hold; and no list that comes before theirs
-- does so, where the limit of time lets it wait: so none that is shorter
pub record IsFirst (w : Scope) (steps : ℕ) (ask : Ask) (es : List Event) : Type 0 where
  pub may_come : MayAllCome w w.base es
  pub few : length es ≤ steps
  pub fails : holds_in w.pick ask (behind w w.base es) ≡ false
  pub first : (other : List Event) → MayAllCome w w.base other → ComesBefore w other es → MayWait ask.within (behind w w.base other)
      → holds_in w.pick ask (behind w w.base other) ≡ true

-- what a verdict says, of all lists that are covered and of each state that was found
abbrev pub IsVerdict : Scope → ℕ → Covered → List StateView → Ask → Verdict → Type 0
IsVerdict w steps covered found ask Holds = HoldsWithin w covered ask × All (λ s. holds_in w.pick ask s ≡ true) found
IsVerdict w steps covered found ask (Fails es) = IsFirst w steps ask es.items × Contains found (behind w w.base es.items)

-- ---- the states that were found

-- some events may come and lead to this state, and each list that comes before theirs leads to a state that is alike to an earlier one
pub record IsNext (w : Scope) (earlier : List StateView) (s : StateView) : Type 0 where
  pub events : List Event
  pub may_come : MayAllCome w w.base events
  pub leads : behind w w.base events ≡ s
  pub first : (other : List Event) → MayAllCome w w.base other → ComesBefore w other events → Any (Alike (behind w w.base other)) earlier

-- of these states no two are alike, and they stand in the order of the lists that lead to them; at most so many events lead to each, and no
-- fewer to some of them, or to one that is alike; and each state to which a covered list leads is alike to one of them
pub record AreReached (w : Scope) (deepest : ℕ) (covered : Covered) (found : List StateView) : Type 0 where
  pub different : AllPairs (λ s later. Alike s later → ⊥) found
  pub in_order : (k : ℕ) (s : StateView) → slice_get found k ≡ Some s → IsNext w (take k found) s
  pub reached : All (Reaches w deepest) found
  pub farthest : Any (λ s. (es : List Event) → MayAllCome w w.base es → Alike (behind w w.base es) s → deepest ≤ length es) found
  pub complete : (es : List Event) → MayAllCome w w.base es → IsCovered covered es → Any (Alike (behind w w.base es)) found

-- each but the base was kept where there was room for it
abbrev pub HadRoom : Bounds → List StateView → Type 0
HadRoom bounds found =
    (k : ℕ) → 0 < k → k < length found → (k < bounds.states) × (sum_by key_length (take k found) < most_bytes bounds)

-- there is no room for another one
abbrev pub IsFull : Bounds → List StateView → Type 0
IsFull bounds found = (bounds.states ≤ length found) ⊎ (most_bytes bounds ≤ sum_by key_length found)

-- an event leads from this state to one that is alike to none of them, for which there is no room; or a limit of starts or of time refuses it
abbrev pub IsTooMuch : Scope → Bounds → List StateView → StateView → Event → Type 0
IsTooMuch w bounds found s e =
    (IsFull bounds found × MayCome w s e × All (λ t. Alike t (step w.pick s e) → ⊥) found) ⊎ (IsMove w s e × (meets_limit s e ≡ true))

-- why no more is covered: nothing is left; or only states behind as many events as may come; or an event was too much, behind so many others
abbrev pub IsEndOf : Scope → Bounds → ℕ → List StateView → Covered → Type 0
IsEndOf w bounds deepest found covered.All = deepest < bounds.steps
IsEndOf w bounds deepest found (covered.UpTo n) =
    ((n ≡ bounds.steps) × (deepest ≡ bounds.steps))
    ⊎ ((n < bounds.steps) × (es : List Event) × (e : Event) × MayAllCome w w.base es × (length es ≡ n) × IsTooMuch w bounds found (behind w w.base es) e)

-- ---- the whole

-- what a search answers is told of the states that were found; where neither their number nor their keys met a bound, and no limit refuses
-- an event, all lists within the bound of steps are covered
pub record IsAnswer (w : Scope) (bounds : Bounds) (asks : List Ask) (x : Explored) : Type 0 where
  pub found : List StateView
  pub states : length found ≡ x.states
  pub bytes : sum_by key_length found ≡ x.bytes
  pub reached : AreReached w x.deepest x.covered found
  pub deepest : x.deepest ≤ bounds.steps
  pub room : HadRoom bounds found
  pub end : IsEndOf w bounds x.deepest found x.covered
  pub covers : x.states < bounds.states → x.bytes < most_bytes bounds → StaysBelowLimits w bounds.steps → CoversAll bounds.steps x.covered
  pub verdicts : AllZip (IsVerdict w bounds.steps x.covered found) asks x.verdicts.items
