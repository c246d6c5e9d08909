-- The log of a room: a history that a single caller could have had (ours).
use Rattle.std.specs.Prelude.{◌≡◌, ◌≤◌, ◌<◌, ℕ, ◌+◌, List, [], ◌∷◌, length, map, All, AllPairs, ◌==◌, if◌then◌else◌}
use Rattle.rh_calls.specs.declared.call.Call.{Call}
use Rattle.rh_calls.specs.declared.call.Reply.{Reply}
use Rattle.rh_trail.specs.SimView.{SimView, Held}
use Rattle.rh_trail.specs.Lone.{opened, replies, sim_after}
use Rattle.rh_room.specs.declared.pass.Entry.{Entry}
use Rattle.rh_room.specs.declared.pass.Receipt.{Receipt}
use Rattle.rh_room.specs.declared.room.TheConstants.Room.{SESSION_LIMIT, LOG_LIMIT}

-- what callers see of a room
pub record RoomView : Type 0 where
  pub sim : Held
  -- how many sessions it has
  pub sessions : ℕ
  pub log : List Entry

-- most sessions of a room, and most entries of its log
abbrev pub session_limit : ℕ
session_limit = SESSION_LIMIT

abbrev pub log_limit : ℕ
log_limit = LOG_LIMIT

-- sessions are numbered from 1
abbrev pub IsSession : ℕ → ℕ → Type 0
IsSession sessions session = (1 ≤ session) × (session ≤ sessions)

abbrev pub entry : ℕ → Call → Reply → Entry
entry session call reply = record { session = session; call = call; reply = reply }

abbrev pub calls : List Entry → List Call
calls log = map (λ e. e.call) log

-- each reply is the one that a single caller is given who makes these calls in this order
abbrev pub IsLegal : SimView → List Entry → Type 0
IsLegal start log = map (λ e. e.reply) log ≡ replies start (calls log)

-- a room has a legal log of its sessions, and the simulation is the one that a single caller has behind these calls
pub record IsRoom (sim : SimView) (sessions : ℕ) (log : List Entry) : Type 0 where
  pub few : IsSession session_limit sessions
  pub legal : IsLegal (opened sim.cluster sim.pick) log
  pub is : sim ≡ sim_after (opened sim.cluster sim.pick) (calls log)
  pub known : All (λ e. IsSession sessions e.session) log
  pub limited : length log ≤ log_limit

-- ---- what a session is told

abbrev pub receipt : ℕ → Call → Reply → Receipt
receipt place call reply = record { place = place; call = call; reply = reply }

-- what callers see of a pass
pub record PassView : Type 0 where
  pub session : ℕ
  pub receipts : List Receipt

abbrev pub new_pass : ℕ → PassView
new_pass session = record { session = session; receipts = [] }

-- each receipt is of an earlier place than those behind it
abbrev pub InOrder : List Receipt → Type 0
InOrder receipts = AllPairs (λ earlier later. earlier.place < later.place) receipts

-- the receipts of a session, for the part of a log that begins at a place
abbrev pub of_from : ℕ → ℕ → List Entry → List Receipt
of_from session place [] = []
of_from session place (e ∷ es) =
    if e.session == session then receipt place e.call e.reply ∷ of_from session (place + 1) es
    else of_from session (place + 1) es

-- the part of a log that is one session's
abbrev pub of_session : ℕ → List Entry → List Receipt
of_session session log = of_from session 0 log
