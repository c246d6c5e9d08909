-- Laws of steps, in the field's own words (ours).
use Rattle.std.specs.Prelude.{◌≡◌, ◌≤◌, ◌+◌, ◌++◌, ℕ, None}
use Rattle.rh_model.specs.ClusterView.{ClusterView, IsWithin}
use Rattle.rh_state.specs.First.{first}
use Rattle.rh_state.specs.StateView.{StateView}
use Rattle.rh_rules.specs.declared.pick.Pick.{Pick}
use Rattle.rh_rules.specs.declared.event.Event.{Event}
use Rattle.rh_rules.specs.declared.event.Event.TheVariants.{Tick}
use Rattle.rh_rules.specs.Refusals.{refused}
use Rattle.rh_rules.specs.Steps.{Allowed, next, outcome}
use Rattle.rh_trace.specs.Validity.{IsValid}

-- the first state of a cluster is valid
abbrev pub FirstIsValid : Type 0
FirstIsValid = (c : ClusterView) → IsWithin c → IsValid (first c)

-- and each step leads from a valid state to one
abbrev pub NextIsValid : Type 0
NextIsValid = (s : StateView) (e : Event) (pick : Pick) → IsValid s → refused s e ≡ None → IsValid (next s e pick).state

-- the outcome that is taken is one that the rules allow
abbrev pub NextIsAllowed : Type 0
NextIsAllowed = (s : StateView) (e : Event) (pick : Pick) → IsValid s → refused s e ≡ None → Allowed s e (next s e pick)

-- a tick of a + b is accepted where one of a and then one of b are, and does what these two do: the same state, and the
-- notices joined
abbrev pub TicksAddUp : Type 0
TicksAddUp = (s : StateView) (a b : ℕ) (pick : Pick) → IsValid s → refused s (Tick a) ≡ None → refused (next s (Tick a) pick).state (Tick b) ≡ None
    → (refused s (Tick (a + b)) ≡ None)
    × (next s (Tick (a + b)) pick ≡ outcome (next (next s (Tick a) pick).state (Tick b) pick).state
    ((next s (Tick a) pick).notices ++ (next (next s (Tick a) pick).state (Tick b) pick).notices))

-- time never runs backwards
abbrev pub TimeGoesOn : Type 0
TimeGoesOn = (s : StateView) (e : Event) (pick : Pick) → refused s e ≡ None → s.time ≤ (next s e pick).state.time
