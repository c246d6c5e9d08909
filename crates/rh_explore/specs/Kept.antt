-- What was found, as it is kept (ours).
use Rattle.std.specs.Prelude.{◌≡◌, ◌<◌, ◌+◌, ℕ, List, [], ◌∷◌, ◌++◌, Option, Some, None, length, sum_by, map, fold, drop, unwrap_or, slice_get, All, Contains}
use Rattle.rh_state.specs.StateView.{StateView}
use Rattle.rh_rules.specs.declared.event.Event.{Event}
use Rattle.rh_explore.specs.declared.asking.Ask.{Ask}
use Rattle.rh_explore.specs.declared.bounds.Bounds.{Bounds}
use Rattle.rh_explore.specs.declared.bounds.Covered.{Covered}
use Rattle.rh_explore.specs.declared.families.Front.{Front}
use Rattle.rh_explore.specs.declared.leads.Expansion.{Expansion}
use Rattle.rh_explore.specs.declared.leads.Lead.{Lead}
use Rattle.rh_explore.specs.declared.leads.Marks.{Marks}
use Rattle.rh_explore.specs.declared.moves.Move.{Move}
use Rattle.rh_explore.specs.declared.search.Search.{Search}
use Rattle.rh_explore.specs.declared.space.Found.{Found}
use Rattle.rh_explore.specs.declared.space.Space.{Space}
use Rattle.rh_explore.specs.Exploring.{scope_of, key_of, key_length, HadRoom}
use Rattle.rh_explore.specs.Failures.{AreFirsts, all_told}
use Rattle.rh_explore.specs.Families.{Knowing, child_by, waiting_in, IsAccepted, IsFamily, LeadsTo, LeadsSo, ExpandsSo}
use Rattle.rh_explore.specs.Reaching.{Scope, behind}
use Rattle.rh_explore.specs.Spaces.{Seen, states_of, AreInTurn, IsExpandedAt, IsCut, IsUnderWay, IsEnded}

-- the list of events that leads to a state, by those that lead to the states before it
abbrev pub path_by : List (List Event) → Option (ℕ × Event) → List Event
path_by paths None = []
path_by paths (Some (from, e)) = unwrap_or (slice_get paths from) [] ++ e ∷ []

abbrev pub with_path : List (List Event) → Found → List (List Event)
with_path paths f = paths ++ path_by paths f.last ∷ []

-- the lists that lead to all of them
abbrev pub paths_of : List Found → List (List Event)
paths_of found = fold with_path [] found

-- a list, and the state behind it
abbrev pub seen_by : Scope → List Event → Seen
seen_by w path = record { path = path; state = behind w w.base path }

abbrev pub seen_of : Scope → List Found → List Seen
seen_of w found = map (seen_by w) (paths_of found)

-- each but the base was found behind an earlier one, and it is told how many events lead to it
pub record AreLinked (found : List Found) : Type 0 where
  pub depths : map (λ f. f.depth) found ≡ map (λ (path : List Event). length path) (paths_of found)
  pub earlier : (k : ℕ) (f : Found) (from : ℕ) (e : Event) → slice_get found k ≡ Some f → f.last ≡ Some (from, e) → from < k

-- the keys of states, as they are kept
abbrev pub code_in : Seen → List ℕ
code_in x = key_of x.state

abbrev pub codes_of : List Seen → List (List ℕ)
codes_of seen = map code_in seen

abbrev pub bytes_of : Space → List (List ℕ)
bytes_of space = map (λ key. key.bytes.items) space.keys.keys

-- the key of each is kept, and what fails in which; each was found in its turn, and had room
pub record IsKept (w : Scope) (bounds : Bounds) (asks : List Ask) (space : Space) : Type 0 where
  pub linked : AreLinked space.found.items
  pub codes : bytes_of space ≡ codes_of (seen_of w space.found.items)
  pub firsts : AreFirsts w.pick space.firsts.items asks (states_of (seen_of w space.found.items))
  pub bytes : space.bytes ≡ sum_by key_length (states_of (seen_of w space.found.items))
  pub in_turn : AreInTurn w (seen_of w space.found.items)
  pub room : HadRoom bounds (states_of (seen_of w space.found.items))

-- ---- the same of a search: its scope, its bounds and its asks

abbrev pub seen_in : Search → Space → List Seen
seen_in search space = seen_of (scope_of search) space.found.items

abbrev pub IsKeptFor : Search → Space → Type 0
IsKeptFor search space = IsKept (scope_of search) search.bounds search.asks.now space

abbrev pub IsUnderWayFor : Search → Space → ℕ → Type 0
IsUnderWayFor search space next = IsUnderWay (scope_of search) search.bounds (seen_in search space) next

abbrev pub IsEndedFor : Search → Space → Covered → Type 0
IsEndedFor search space = IsEnded (scope_of search) search.bounds (seen_in search space)

abbrev pub IsExpandedFor : Search → Space → ℕ → ℕ → Type 0
IsExpandedFor search space at made = IsExpandedAt (scope_of search) (seen_in search space) at made

abbrev pub IsCutFor : Search → Space → ℕ → Type 0
IsCutFor search space at = IsCut (scope_of search) search.bounds (seen_in search space) at

abbrev pub LeadsToFor : Search → Knowing → StateView → Event → Lead → Type 0
LeadsToFor search = LeadsTo (scope_of search) search.asks.now

abbrev pub LeadsFor : Search → Knowing → StateView → Move → Lead → Type 0
LeadsFor search = LeadsSo (scope_of search) search.asks.now

abbrev pub ExpandsFor : Search → Knowing → StateView → Expansion → Type 0
ExpandsFor search = ExpandsSo (scope_of search) search.asks.now

-- what was found stays, and more is found
abbrev pub GoesOnFrom : List Found → List Found → Type 0
GoesOnFrom old new = (more : List Found) × (new ≡ old ++ more)

-- ---- one state more

-- it is there, and all that is kept of it
pub record HasOneMore (one : Found) (marks : Marks) (old new : Space) : Type 0 where
  pub found : new.found.items ≡ old.found.items ++ one ∷ []
  pub keys : bytes_of new ≡ bytes_of old ++ marks.key.bytes.items ∷ []
  pub bytes : new.bytes ≡ old.bytes + length marks.key.bytes.items
  pub firsts : new.firsts.items ≡ all_told (length old.found.items) old.firsts.items marks.fails.items

-- none is
pub record HasTheSame (old new : Space) : Type 0 where
  pub found : new.found.items ≡ old.found.items
  pub keys : bytes_of new ≡ bytes_of old
  pub bytes : new.bytes ≡ old.bytes
  pub firsts : new.firsts.items ≡ old.firsts.items

-- events may follow in the state of this number
abbrev pub IsShort : Bounds → List Found → ℕ → Type 0
IsShort bounds found at = (f : Found) × (slice_get found at ≡ Some f) × (f.depth < bounds.steps)

-- ---- what is known

abbrev pub knowing_in : Space → Knowing
knowing_in space = record { keys = bytes_of space; firsts = space.firsts.items }

-- no less is known later
pub record IsKnown (k : Knowing) (space : Space) : Type 0 where
  pub keys : (q : List ℕ) → Contains k.keys q → Contains (bytes_of space) q
  pub count : length k.firsts ≡ length space.firsts.items
  pub firsts : (j : ℕ) → slice_get space.firsts.items j ≡ Some None → slice_get k.firsts j ≡ Some None

-- this is so of the state of a number, by what was known when it was expanded
abbrev pub LeadAt : Search → Space → ℕ → (Knowing → StateView → Type 0) → Type 0
LeadAt search space at Q = (k : Knowing) × (x : Seen) × (slice_get (seen_in search space) at ≡ Some x) × IsKnown k space × Q k x.state

-- these events of the state of a number lead to all that were found since
pub record FindsFrom (search : Search) (s : StateView) (old new : Space) (events : List (Option Event)) : Type 0 where
  pub states : states_of (seen_in search new) ≡ states_of (seen_in search old) ++ map (child_by search.pick s) events
  pub accepted : All (IsAccepted s) events
  pub known : IsKnown (knowing_in old) new

abbrev pub FindsAt : Search → ℕ → Space → Space → List (Option Event) → Type 0
FindsAt search at old new events = (x : Seen) → slice_get (seen_in search old) at ≡ Some x → FindsFrom search x.state old new events

-- ---- what is to be expanded

-- these states are next, and then those of the families
pub record IsFrontOf (search : Search) (space : Space) (front : Front) (states : List StateView) : Type 0 where
  pub families : All IsFamily front.families.items
  pub waiting : states ++ waiting_in search.pick front.families.items ≡ drop front.next (states_of (seen_in search space))

-- this came of the next one, by what was known when it was expanded
abbrev pub IsExpandedNext : Search → Space → Front → Expansion → Type 0
IsExpandedNext search space front expansion = (k : Knowing) × (s : StateView) × (states : List StateView) × IsKnown k space
    × ExpandsFor search k s expansion × IsFrontOf search space front (s ∷ states)
