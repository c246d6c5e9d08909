-- What may happen in a state (Distributed Applications; kernel(6), sync_nodes_timeout, distributed; ours for waiting).
use Rattle.std.specs.Prelude.{ℕ, ◌-◌, max, Option, Some}
use Rattle.std.specs.Option.{option_map}
use Rattle.rh_state.specs.declared.status.Timer.{Timer}
use Rattle.rh_state.specs.StateView.{StateView, earliest}
use Rattle.rh_rules.specs.declared.event.Event.{Event}
use Rattle.rh_rules.specs.declared.event.Event.TheVariants.{Tick}
use Rattle.rh_explore.specs.declared.moves.Move.{Move}
use Rattle.rh_explore.specs.declared.moves.Move.TheVariants.{Make, Wait}

-- how long it takes until a timer is due: a millisecond is the shortest tick
abbrev pub ms_to : StateView → ℕ × Timer → ℕ
ms_to s entry = max 1 (entry.0 - s.time)

-- so long time passes
abbrev pub wait_for : StateView → ℕ × Timer → Event
wait_for s entry = Tick (ms_to s entry)

-- until the next one is, if one is set
abbrev pub wait_in : StateView → Option Event
wait_in s = option_map (wait_for s) (earliest s)

-- the event that a move is in a state, if it is one there
abbrev pub event_in : StateView → Move → Option Event
event_in s (Make e) = Some e
event_in s Wait = wait_in s
