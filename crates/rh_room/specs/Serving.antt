-- When a room serves a pass, and what it answers (ours).
use Rattle.std.specs.Prelude.{◌≡◌, ◌<◌, ℕ, ◌-◌, List, length, Option, Some, None, slice_get, IfSome}
use Rattle.rh_calls.specs.declared.call.Call.{Call}
use Rattle.rh_calls.specs.declared.call.Call.TheVariants as call
use Rattle.rh_calls.specs.declared.call.Reply.{Reply}
use Rattle.rh_trail.specs.SimView.{SimView}
use Rattle.rh_trail.specs.Lone.{served, answered, TakesMemory}
use Rattle.rh_room.specs.declared.pass.Entry.{Entry}
use Rattle.rh_room.specs.declared.pass.Receipt.{Receipt}
use Rattle.rh_room.specs.declared.pass.RoomFault.{RoomFault}
use Rattle.rh_room.specs.declared.pass.RoomFault.TheVariants.{SessionCount, WrongRoom, LogFull, OutOfMemory}
use Rattle.rh_room.specs.Legal.{PassView, RoomView, IsSession, entry, receipt, session_limit, log_limit}

-- the last receipt, if there is one
abbrev pub last_of : List Receipt → Option Receipt
last_of receipts = slice_get receipts (length receipts - 1)

-- its place, and 0 without receipts
abbrev pub place_of : Option Receipt → ℕ
place_of None = 0
place_of (Some r) = r.place

-- the log has the entry that this receipt is of
abbrev pub IsLogged : RoomView → ℕ → Option Receipt → Type 0
IsLogged room session None = Unit {0}
IsLogged room session (Some r) = slice_get room.log r.place ≡ Some (entry session r.call r.reply)

-- the pass is one of this room's: of a session that it has, and its log has what the pass was told last
abbrev pub IsPassOf : RoomView → PassView → Type 0
IsPassOf room pass = IsSession room.sessions pass.session × IsLogged room pass.session (last_of pass.receipts)

-- the receipt for a call, with the reply that a single caller is given here
abbrev pub receipt_of : RoomView → Call → Receipt
receipt_of room call = receipt (length room.log) call (served room.sim.seen call).reply

-- why a room doesn't serve a call of a pass: the first reason that applies, and want of memory last
abbrev pub WhyNot : RoomView → PassView → Call → RoomFault → Type 0
WhyNot room pass call SessionCount = ⊥
WhyNot room pass call (WrongRoom place) = (IsPassOf room pass → ⊥) × (place ≡ place_of (last_of pass.receipts))
WhyNot room pass call LogFull = IsPassOf room pass × (length room.log ≡ log_limit)
WhyNot room pass call OutOfMemory = IsPassOf room pass × (length room.log < log_limit) × TakesMemory room.sim.seen call

-- why none is opened
abbrev pub WhyNotOpened : ℕ → RoomFault → Type 0
WhyNotOpened sessions SessionCount = IsSession session_limit sessions → ⊥
WhyNotOpened sessions (WrongRoom place) = ⊥
WhyNotOpened sessions LogFull = ⊥
WhyNotOpened sessions OutOfMemory = IsSession session_limit sessions

-- ---- a look right behind another

-- the reply to a call, if that is a look
abbrev pub look_reply : Call → Reply → Option Reply
look_reply (call.Step e) reply = None
look_reply call.Undo reply = None
look_reply call.Redo reply = None
look_reply call.UndoAll reply = None
look_reply call.RedoAll reply = None
look_reply call.Look reply = Some reply

-- the reply to an entry's call, if that is a look
abbrev pub look_in : Option Entry → Option Reply
look_in None = None
look_in (Some e) = look_reply e.call e.reply

-- the reply to the last call of a log, if that is a look
abbrev pub last_look : List Entry → Option Reply
last_look log = look_in (slice_get log (length log - 1))

-- a look is still answered so
abbrev pub IsStill : SimView → Option Reply → Type 0
IsStill sim told = IfSome told (λ reply. served sim call.Look ≡ answered reply sim)
