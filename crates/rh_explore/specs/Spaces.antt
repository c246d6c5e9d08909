-- What is said within a search, where a part of the states is found (ours).
use Rattle.std.specs.Prelude.{◌≡◌, ◌≤◌, ◌<◌, ◌+◌, ◌-◌, max, sum_by, ℕ, true, false, List, [], ◌∷◌, ◌++◌, Some, length, map, take, slice_get, All, AllPairs}
use Rattle.rh_state.specs.StateView.{StateView}
use Rattle.rh_rules.specs.declared.event.Event.{Event}
use Rattle.rh_rules.specs.declared.pick.Pick.{Pick}
use Rattle.rh_keys.specs.Shifts.{Alike}
use Rattle.rh_trace.specs.Validity.{IsValid}
use Rattle.rh_step.specs.Runs.{step}
use Rattle.rh_explore.specs.declared.answers.Verdict.{Verdict}
use Rattle.rh_explore.specs.declared.answers.Verdict.TheVariants.{Holds, Fails}
use Rattle.rh_explore.specs.declared.asking.Ask.{Ask}
use Rattle.rh_explore.specs.Asking.{holds_in}
use Rattle.rh_explore.specs.declared.bounds.Bounds.{Bounds}
use Rattle.rh_explore.specs.declared.bounds.Covered.{Covered}
use Rattle.rh_explore.specs.declared.bounds.Covered.TheVariants as covered
use Rattle.rh_explore.specs.declared.moves.Move.{Move}
use Rattle.rh_explore.specs.Moves.{event_in}
use Rattle.rh_explore.specs.Exploring.{key_length, most_bytes, StaysBelowLimits, CoversAll, IsTooMuch, IsEndOf}
use Rattle.rh_explore.specs.Reaching.{Scope, MayCome, MayAllCome, behind}

-- a state that was found, and a list of events that leads to it
pub record Seen : Type 0 where
  pub path : List Event
  pub state : StateView

abbrev pub states_of : List Seen → List StateView
states_of seen = map (λ x. x.state) seen

-- the list may come from the base, and leads there
pub record IsSeen (w : Scope) (x : Seen) : Type 0 where
  pub may_come : MayAllCome w w.base x.path
  pub leads : behind w w.base x.path ≡ x.state
  pub valid : IsValid x.state
  pub cluster : x.state.cluster ≡ w.base.cluster

-- a state that is alike was found, by a list of at most so many events
abbrev pub HasWithin : List Seen → StateView → ℕ → Type 0
HasWithin seen s n = (k : ℕ) × (x : Seen) × (slice_get seen k ≡ Some x) × Alike s x.state × (length x.path ≤ n)

-- where the event may come, from this state or from one that is alike, it leads to one that was found, by one event more
abbrev pub LeadsOn : Scope → List Seen → Seen → Event → Type 0
LeadsOn w seen x e =
    (s : StateView) → Alike s x.state → IsValid s → MayCome w s e → HasWithin seen (step w.pick s e) (length x.path + 1)

-- so does the event that a move is, if it is one
abbrev pub MovesOn : Scope → List Seen → Seen → Move → Type 0
MovesOn w seen x m = (e : Event) → event_in x.state m ≡ Some e → LeadsOn w seen x e

-- states that were found, no two of them alike, those by shorter lists first, and the base as the first; no event leads from the first
-- `done` of them to one that wasn't found
pub record IsSearched (w : Scope) (seen : List Seen) (done : ℕ) : Type 0 where
  pub each : All (IsSeen w) seen
  pub begins : slice_get seen 0 ≡ Some (record { path = []; state = w.base })
  pub ordered : AllPairs (λ x later. length x.path ≤ length later.path) seen
  pub different : AllPairs (λ x later. Alike x.state later.state → ⊥) seen
  pub closed : (k : ℕ) (x : Seen) (e : Event) → k < done → slice_get seen k ≡ Some x → LeadsOn w seen x e

-- no list is longer by more than one event than that of the first state whose events weren't made
abbrev pub IsNear : List Seen → ℕ → Type 0
IsNear seen done = (x : Seen) → slice_get seen done ≡ Some x → All (λ (y : Seen). length y.path ≤ length x.path + 1) seen

-- in the state of number `at` the first `count` moves were made
pub record IsExpanded (w : Scope) (seen : List Seen) (at : ℕ) (x : Seen) (count : ℕ) : Type 0 where
  pub searched : IsSearched w seen at
  pub here : slice_get seen at ≡ Some x
  pub near : All (λ (y : Seen). length y.path ≤ length x.path + 1) seen
  pub made : (j : ℕ) (m : Move) → j < count → slice_get w.moves j ≡ Some m → MovesOn w seen x m

-- so in whatever state has this number
abbrev pub IsExpandedAt : Scope → List Seen → ℕ → ℕ → Type 0
IsExpandedAt w seen at made = (x : Seen) × IsExpanded w seen at x made

-- a state was found in its turn: by a move of an earlier one, while no other was there than those to which the moves before it lead
pub record IsFoundInTurn (w : Scope) (earlier : List Seen) (y : Seen) : Type 0 where
  pub at : ℕ
  pub from : Seen
  pub place : ℕ
  pub move : Move
  pub event : Event
  pub expanded : IsExpanded w earlier at from place
  pub listed : slice_get w.moves place ≡ Some move
  pub is : event_in from.state move ≡ Some event
  pub path : y.path ≡ from.path ++ event ∷ []

-- so was each but the base
abbrev pub AreInTurn : Scope → List Seen → Type 0
AreInTurn w seen = (k : ℕ) (y : Seen) → 0 < k → slice_get seen k ≡ Some y → IsFoundInTurn w (take k seen) y

-- the search ends there: an event in the state of this number is too much
abbrev pub IsCut : Scope → Bounds → List Seen → ℕ → Type 0
IsCut w bounds seen at = (x : Seen) × (e : Event) × (slice_get seen at ≡ Some x) × IsTooMuch w bounds (states_of seen) x.state e

-- the lists of events of which all were looked at
abbrev pub IsEnd : List Seen → ℕ → Covered → Type 0
IsEnd seen done covered.All = length seen ≤ done
IsEnd seen done (covered.UpTo n) = (k : ℕ) (x : Seen) → done ≤ k → slice_get seen k ≡ Some x → n ≤ length x.path

-- the first `next` of the states were expanded, none of them behind as many events as may come
pub record IsUnderWay (w : Scope) (bounds : Bounds) (seen : List Seen) (next : ℕ) : Type 0 where
  pub searched : IsSearched w seen next
  pub near : IsNear seen next
  pub spent : (k : ℕ) (x : Seen) → k < next → slice_get seen k ≡ Some x → length x.path < bounds.steps
  pub few : All (λ (x : Seen). length x.path ≤ bounds.steps) seen
  pub room : length seen ≤ max 1 bounds.states

-- the search ended so
pub record IsEnded (w : Scope) (bounds : Bounds) (seen : List Seen) (covered : Covered) : Type 0 where
  pub done : ℕ
  pub searched : IsSearched w seen done
  pub near : IsNear seen done
  pub few : All (λ (x : Seen). length x.path ≤ bounds.steps) seen
  pub end : IsEnd seen done covered
  pub why : (x : Seen) → slice_get seen (length seen - 1) ≡ Some x → IsEndOf w bounds (length x.path) (states_of seen) covered
  pub covers : length seen < bounds.states → sum_by key_length (states_of seen) < most_bytes bounds → StaysBelowLimits w bounds.steps → CoversAll bounds.steps covered

-- what is asked holds in all states that were found; or it doesn't hold in one to which these events lead, and in all before it
abbrev pub FirstFails : Pick → List Seen → Ask → Verdict → Type 0
FirstFails pick seen ask Holds = All (λ (x : Seen). holds_in pick ask x.state ≡ true) seen
FirstFails pick seen ask (Fails es) = (i : ℕ) × (x : Seen) × (slice_get seen i ≡ Some x) × (es.items ≡ x.path) × (holds_in pick ask x.state ≡ false)
    × ((k : ℕ) (y : Seen) → k < i → slice_get seen k ≡ Some y → holds_in pick ask y.state ≡ true)
