-- Lists of events that may come, one after the other, and in which order they are tried (ours).
use Rattle.std.specs.Prelude.{ℕ, zero, suc, List, [], ◌∷◌, ◌++◌, Option, Some, None}
use Rattle.std.specs.List.{flat_map, filter_map}
use Rattle.std.specs.Option.{option_map}
use Rattle.rh_rules.specs.declared.event.Event.{Event}
use Rattle.rh_explore.specs.declared.moves.Move.{Move}
use Rattle.rh_otp_report.specs.Report.{report_of}
use Rattle.rh_otp_sim.specs.Sim.{LiveSimView}
use Rattle.rh_otp_explore.specs.declared.listing.Bounds.{Bounds}
use Rattle.rh_otp_explore.specs.Coming.{comes, made_if}
use Rattle.rh_otp_explore.specs.Due.{event_in}

-- what may happen: each of these moves, as often as one likes, with at most so many nodes not up behind each
pub record Scope : Type 0 where
  pub moves : List Move
  pub down : ℕ

abbrev pub scope_of : Bounds → Scope
scope_of bounds = record { moves = bounds.moves.now; down = bounds.down }

-- a list of events, and the live nodes behind it
pub record Behind : Type 0 where
  pub events : List Event
  pub sim : LiveSimView

-- an event and the live nodes behind it, where there is one and it may come
abbrev pub next_by : ℕ → LiveSimView → Option Event → Option (Event × LiveSimView)
next_by down sim None = None
next_by down sim (Some e) = option_map (λ (later : LiveSimView). (e, later)) (made_if (comes down e sim) e sim)

-- a list with one event more
abbrev pub with_event : Behind → Event × LiveSimView → Behind
with_event b one = record { events = b.events ++ one.0 ∷ []; sim = one.1 }

-- the list with the event that a move is behind it, where that may come
abbrev pub next : Scope → Behind → Move → Option Behind
next w b m = option_map (with_event b) (next_by w.down b.sim (event_in (report_of b.sim) m))

-- all lists that are longer by one event, in the order of the moves
abbrev pub nexts : Scope → Behind → List Behind
nexts w b = filter_map (next w b) w.moves

-- all that are longer by so many
abbrev pub level : Scope → ℕ → Behind → List Behind
level w zero b = b ∷ []
level w (suc n) b = flat_map (level w n) (nexts w b)

-- all that are longer by fewer than so many, shorter ones first
abbrev pub below : Scope → ℕ → Behind → List Behind
below w zero b = []
below w (suc n) b = below w n b ++ level w n b

-- and by at most so many
abbrev pub up_to : Scope → ℕ → Behind → List Behind
up_to w n b = below w (suc n) b
