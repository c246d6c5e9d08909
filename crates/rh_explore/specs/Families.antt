-- The states that are to be expanded, and what comes of it (ours).
use Rattle.std.specs.Prelude.{◌≡◌, ◌≤◌, ◌<◌, ℕ, List, [], Bool, true, false, Option, Some, None, Result, Ok, Err, map, filter, length, All, Contains}
use Rattle.std.specs.List.{AllZip, flat_map, list_any}
use Rattle.std.specs.declared.alloc.Global.{Global}
use Rattle.std.specs.declared.boxed.Box.{Box}
use Rattle.std.specs.declared.collections.VecDeque.{VecDeque}
use Rattle.rh_base.specs.declared.memory.OutOfMemory.{OutOfMemory}
use Rattle.rh_state.specs.StateView.{StateView}
use Rattle.rh_state.specs.Stored.{Stored, read}
use Rattle.rh_rules.specs.declared.event.Event.{Event}
use Rattle.rh_rules.specs.declared.pick.Pick.{Pick}
use Rattle.rh_rules.specs.Refusals.{refused}
use Rattle.rh_keys.specs.ShiftLaws.{meets_limit}
use Rattle.rh_trace.specs.Validity.{IsValid}
use Rattle.rh_step.specs.Runs.{step}
use Rattle.rh_explore.specs.declared.asking.Ask.{Ask}
use Rattle.rh_explore.specs.declared.families.Family.{Family}
use Rattle.rh_explore.specs.declared.leads.Expansion.{Expansion}
use Rattle.rh_explore.specs.declared.leads.Lead.{Lead}
use Rattle.rh_explore.specs.declared.leads.Lead.TheVariants as lead
use Rattle.rh_explore.specs.declared.moves.Move.{Move}
use Rattle.rh_explore.specs.declared.worker.Known.{Known}
use Rattle.rh_explore.specs.Exploring.{key_of}
use Rattle.rh_explore.specs.Failures.{FailThere}
use Rattle.rh_explore.specs.Moves.{event_in}
use Rattle.rh_explore.specs.Reaching.{Scope, not_up_count}

-- ---- families

-- the state to which an event leads; none leads to the state itself
abbrev pub child_by : Pick → StateView → Option Event → StateView
child_by pick s None = s
child_by pick s (Some e) = step pick s e

abbrev pub children : Pick → Family → List StateView
children pick f = map (child_by pick (read f.state.value)) f.events.items

abbrev pub waiting_in : Pick → List Family → List StateView
waiting_in pick families = flat_map (children pick) families

-- the event is accepted there, if there is one
abbrev pub IsAccepted : StateView → Option Event → Type 0
IsAccepted s None = Unit {0}
IsAccepted s (Some e) = refused s e ≡ None

-- some states were found from it, each by an event that was accepted
pub record IsFamily (f : Family) : Type 0 where
  pub valid : IsValid (read f.state.value)
  pub some : 0 < length f.events.items
  pub accepted : All (IsAccepted (read f.state.value)) f.events.items

-- ---- what comes of a state

-- how much is known when it is expanded: the keys of the states that were found, and the first state in which each ask fails
pub record Knowing : Type 0 where
  pub keys : List (List ℕ)
  pub firsts : List (Option ℕ)

abbrev pub knowing : Known → Knowing
knowing known = record { keys = map (λ key. key.bytes.items) known.keys.now.keys; firsts = known.firsts.now }

-- the families of a piece of work
abbrev pub IsPiece : VecDeque Family Global → Type 0
IsPiece piece = All IsFamily piece.items

abbrev pub ArePieces : List (VecDeque Family Global) → Type 0
ArePieces pieces = All IsPiece pieces

abbrev pub piece_waiting : Pick → VecDeque Family Global → List StateView
piece_waiting pick piece = waiting_in pick piece.items

-- where an event leads that has led to this state
abbrev pub LeadsTo : Scope → List Ask → Knowing → StateView → Event → Lead → Type 0
LeadsTo w asks k t e lead.Nowhere = not_up_count t ≤ w.down → ⊥
LeadsTo w asks k t e lead.Known = (not_up_count t ≤ w.down) × Contains k.keys (key_of t)
LeadsTo w asks k t e lead.AtLimit = ⊥
LeadsTo w asks k t e (lead.To d marks) =
    (d ≡ e) × (not_up_count t ≤ w.down) × (marks.key.bytes.items ≡ key_of t) × FailThere w.pick k.firsts asks t marks.fails.items

-- where one does that may be made there
abbrev pub EventLeads : Scope → List Ask → Knowing → StateView → Event → Lead → Type 0
EventLeads w asks k s e lead.AtLimit = meets_limit s e ≡ true
EventLeads w asks k s e lead.Nowhere = (meets_limit s e ≡ false) × (refused s e ≡ None → not_up_count (step w.pick s e) ≤ w.down → ⊥)
EventLeads w asks k s e l = (refused s e ≡ None) × ((step w.pick s e).cluster ≡ s.cluster) × LeadsTo w asks k (step w.pick s e) e l

-- where a move does
abbrev pub MoveLeads : Scope → List Ask → Knowing → StateView → Option Event → Lead → Type 0
MoveLeads w asks k s None l = l ≡ lead.Nowhere
MoveLeads w asks k s (Some e) l = EventLeads w asks k s e l

abbrev pub LeadsSo : Scope → List Ask → Knowing → StateView → Move → Lead → Type 0
LeadsSo w asks k s m l = MoveLeads w asks k s (event_in s m) l

abbrev pub is_new : Lead → Bool
is_new lead.Nowhere = false
is_new lead.Known = false
is_new lead.AtLimit = false
is_new (lead.To e marks) = true

-- is it told? The others lead to no state that wasn't known
abbrev pub is_told : Lead → Bool
is_told lead.Nowhere = false
is_told lead.Known = false
is_told lead.AtLimit = true
is_told (lead.To e marks) = true

-- these are told of where moves lead, in their order
abbrev pub AreLeads : (Move → Lead → Type 0) → List Move → List Lead → Type 0
AreLeads R moves told = (all : List Lead) × AllZip R moves all × (told ≡ filter is_told all)

-- where all moves lead; the state is kept where one leads to a state that wasn't known
pub record ExpandsSo (w : Scope) (asks : List Ask) (k : Knowing) (s : StateView) (x : Expansion) : Type 0 where
  pub leads : AreLeads (LeadsSo w asks k s) w.moves x.leads.items
  pub kept : list_any is_new x.leads.items ≡ true → (state : Box Stored Global) × (x.state ≡ Some state) × (read state.value ≡ s)

-- what came of a piece of work
abbrev pub part_items : Result (VecDeque Expansion Global) OutOfMemory → List Expansion
part_items (Ok expansions) = expansions.items
part_items (Err e) = []
