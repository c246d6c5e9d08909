-- The clock, the incarnations and the start kinds change no step (ours).
use Rattle.std.specs.Prelude.{◌≡◌, Bool, true, false, Option, Some, None}
use Rattle.rh_state.specs.StateView.{StateView}
use Rattle.rh_rules.specs.declared.event.Event.{Event}
use Rattle.rh_rules.specs.declared.pick.Pick.{Pick}
use Rattle.rh_rules.specs.declared.refusal.Refusal.{Refusal}
use Rattle.rh_rules.specs.declared.refusal.Refusal.TheVariants.{IncarnationLimit, TimeLimit}
use Rattle.rh_rules.specs.Refusals.{refused}
use Rattle.rh_rules.specs.Steps.{next}
use Rattle.rh_keys.specs.Shifts.{Alike, NoneIsOverdue}

-- two states that are alike go on to states that are, and their steps tell the same
abbrev pub NextCommutesWithShifts : Type 0
NextCommutesWithShifts =
    (s t : StateView) (e : Event) (pick : Pick) → NoneIsOverdue s → NoneIsOverdue t → Alike s t
    → Alike (next s e pick).state (next t e pick).state × ((next s e pick).notices ≡ (next t e pick).notices)

-- a limit of starts or of time refuses
abbrev pub is_limit : Option Refusal → Bool
is_limit (Some IncarnationLimit) = true
is_limit (Some TimeLimit) = true
is_limit _ = false

-- it refuses the event
abbrev pub meets_limit : StateView → Event → Bool
meets_limit s e = is_limit (refused s e)

-- where no such limit does, two states that are alike accept the same events
abbrev pub AlikeAcceptAlike : Type 0
AlikeAcceptAlike =
    (s t : StateView) (e : Event) → Alike s t → refused s e ≡ None → meets_limit t e ≡ false → refused t e ≡ None
