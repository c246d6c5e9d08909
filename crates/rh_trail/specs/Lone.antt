-- The calls of one caller, with their replies (ours).
use Rattle.std.specs.Prelude.{◌≡◌, ◌<◌, ℕ, ◌+◌, ◌-◌, List, [], ◌∷◌, ◌++◌, length, take, Option, Some, None, Result, Ok, Err, ◌==◌, if◌then◌else◌}
use Rattle.rh_model.specs.ClusterView.{ClusterView}
use Rattle.rh_rules.specs.declared.event.Event.{Event}
use Rattle.rh_rules.specs.declared.pick.Pick.{Pick}
use Rattle.rh_rules.specs.declared.refusal.Refusal.{Refusal}
use Rattle.rh_rules.specs.declared.refusal.Refusal.TheVariants.{TrailFull}
use Rattle.rh_calls.specs.declared.call.Call.{Call}
use Rattle.rh_calls.specs.declared.call.Call.TheVariants as call
use Rattle.rh_calls.specs.declared.call.Reply.{Reply}
use Rattle.rh_calls.specs.declared.call.Reply.TheVariants as reply
use Rattle.rh_trail.specs.declared.sim.AtStart.{AtStart}
use Rattle.rh_trail.specs.declared.sim.AtEnd.{AtEnd}
use Rattle.rh_rules.specs.Refusals.{refused}
use Rattle.rh_trail.specs.declared.sim.TheConstants.Sim.{TRAIL_LIMIT}
use Rattle.rh_rules.specs.Steps.{next}
use Rattle.rh_trail.specs.SimView.{SimView, state_of}
use Rattle.rh_calls.specs.Report.{report_text}

-- a reply, and what the simulation is after it
pub record Served : Type 0 where
  pub reply : Reply
  pub sim : SimView

abbrev pub answered : Reply → SimView → Served
answered reply sim = record { reply = reply; sim = sim }

-- the trail of a new simulation is empty
abbrev pub opened : ClusterView → Pick → SimView
opened c pick = record { cluster = c; pick = pick; trail = []; cursor = 0 }

-- most events of a trail
abbrev pub trail_limit : ℕ
trail_limit = TRAIL_LIMIT

-- an accepted event drops what could be made again, and becomes the last that stands
abbrev pub with_event : SimView → Event → SimView
with_event s e = record s { trail = take s.cursor s.trail ++ e ∷ []; cursor = s.cursor + 1 }

-- the simulation without what could be made again
abbrev pub cut : SimView → SimView
cut s = record s { trail = take s.cursor s.trail }

-- an event: refused, or the trail is full, or it follows and becomes the last of the trail (ours)
abbrev pub stepped : SimView → Event → Option Refusal → Served
stepped s e (Some refusal) = answered (reply.Refused refusal) s
stepped s e None =
    if s.cursor == trail_limit then answered (reply.Refused TrailFull) s
    else answered (reply.Done (next (state_of s) e s.pick).notices) (with_event s e)

-- what one caller is answered, and the simulation behind the call (ours)
abbrev pub served : SimView → Call → Served
served s (call.Step e) = stepped s e (refused (state_of s) e)
served s call.Undo = if s.cursor == 0 then answered reply.AtStart s else answered reply.Undone (record s { cursor = s.cursor - 1 })
served s call.Redo = if s.cursor == length s.trail then answered reply.AtEnd s else answered reply.Redone (record s { cursor = s.cursor + 1 })
served s call.UndoAll = answered (reply.Moved s.cursor) (record s { cursor = 0 })
served s call.RedoAll = answered (reply.Moved (length s.trail - s.cursor)) (record s { cursor = length s.trail })
served s call.Look = answered (reply.Seen s.cursor (length s.trail) (report_text (state_of s))) s

-- the calls that take memory, and so may be answered want of it: a step that isn't refused, and the report
abbrev pub TakesMemory : SimView → Call → Type 0
TakesMemory s (call.Step e) = (refused (state_of s) e ≡ None) × (s.cursor < trail_limit)
TakesMemory s call.Undo = ⊥
TakesMemory s call.Redo = ⊥
TakesMemory s call.UndoAll = ⊥
TakesMemory s call.RedoAll = ⊥
TakesMemory s call.Look = Unit {0}

-- the reply that an answer of undo or redo stands for
abbrev pub undo_reply : Result ℕ AtStart → Reply
undo_reply (Ok _) = reply.Undone
undo_reply (Err _) = reply.AtStart

abbrev pub redo_reply : Result ℕ AtEnd → Reply
redo_reply (Ok _) = reply.Redone
redo_reply (Err _) = reply.AtEnd

-- the replies to calls, one after the other
abbrev pub replies : SimView → List Call → List Reply
replies s [] = []
replies s (call ∷ calls) = (served s call).reply ∷ replies (served s call).sim calls

-- and the simulation after them
abbrev pub sim_after : SimView → List Call → SimView
sim_after s [] = s
sim_after s (call ∷ calls) = sim_after (served s call).sim calls
