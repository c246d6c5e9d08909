-- Worked rows: when a room serves a pass, what it answers, and when it closes.
use Rattle.std.proofs.Common.{◌≡◌, ◌<◌, ℕ, List, [], ◌∷◌, length, All, refl, arith}
use Rattle.rh_model.specs.ClusterView.{ClusterView}
use Rattle.rh_rules.specs.declared.pick.Pick.{Pick}
use Rattle.rh_calls.specs.declared.call.Call.{Call}
use Rattle.rh_calls.specs.declared.call.Call.TheVariants.{Undo, Redo}
use Rattle.rh_calls.specs.declared.call.Reply.TheVariants.{AtStart, AtEnd}
use Rattle.rh_trail.specs.SimView.{Held}
use Rattle.rh_trail.specs.Lone.{served}
use Rattle.rh_room.specs.declared.pass.Entry.{Entry}
use Rattle.rh_room.specs.declared.pass.RoomFault.TheVariants.{SessionCount, WrongRoom, LogFull, OutOfMemory}
use Rattle.rh_room.specs.declared.closing.CloseReason.TheVariants.{Disagree, OtherBase}
use Rattle.rh_room.specs.Legal.{PassView, RoomView, session_limit, log_limit, entry, receipt, new_pass, of_session}
use Rattle.rh_room.specs.Serving.{IsPassOf, receipt_of, WhyNot, WhyNotOpened}
use Rattle.rh_room.specs.Closing.{AreAll, Agrees, WhyOpen}

-- ---- limits

limits_row : (session_limit ≡ 8) × (log_limit ≡ 65535)
limits_row = (refl, refl)

-- a room has 1 to 8 sessions
sessions_row : (WhyNotOpened 0 SessionCount) × (WhyNotOpened 9 SessionCount) × (WhyNotOpened 1 SessionCount → ⊥) × (WhyNotOpened 8 SessionCount → ⊥)
sessions_row = (λ few. omega (arith, few.0), λ few. omega (arith, few.1), λ why. why (omega arith, omega arith), λ why. why (omega arith, omega arith))

-- ---- whose turn a call is

-- an unused pass is of each room that has its session
unused_pass_row : (sim : Held) (log : List Entry) → IsPassOf (record { sim = sim; sessions = 2; log = log }) (new_pass 2)
    × (IsPassOf (record { sim = sim; sessions = 2; log = log }) (new_pass 3) → ⊥) × (IsPassOf (record { sim = sim; sessions = 2; log = log }) (new_pass 0) → ⊥)
unused_pass_row sim log = (((omega arith, omega arith), tt), λ is. omega (arith, is.0.1), λ is. omega (arith, is.0.0))

-- a pass that was told what isn't logged is of another room, and the place of its last receipt is told; without receipts that is 0
foreign_row : (sim : Held) (call : Call) → WhyNot (record { sim = sim; sessions = 1; log = [] })
    (record { session = 1; receipts = receipt 3 Undo AtStart ∷ receipt 7 Redo AtEnd ∷ [] }) call (WrongRoom 7)
foreign_row sim call = (λ is. cc is.1, refl)

other_session_row : (sim : Held) (log : List Entry) (call : Call) → WhyNot (record { sim = sim; sessions = 2; log = log }) (new_pass 3) call (WrongRoom 0)
other_session_row sim log call = (λ is. omega (arith, is.0.1), refl)

-- a log takes 65,535 entries; that the pass is another room's comes before that the log is full, and want of memory behind both
full_row : (room : RoomView) (pass : PassView) (call : Call) → IsPassOf room pass → length room.log ≡ 65535
    → WhyNot room pass call LogFull × (WhyNot room pass call OutOfMemory → ⊥)
full_row room pass call is full = ((is, full), λ why. omega (arith, full, why.1))

almost_full_row : (room : RoomView) (pass : PassView) (call : Call) → length room.log ≡ 65534 → WhyNot room pass call LogFull → ⊥
almost_full_row room pass call almost why = omega (arith, almost, why.1)

foreign_before_full_row : (room : RoomView) (pass : PassView) (call : Call) → (IsPassOf room pass → ⊥) → WhyNot room pass call LogFull → ⊥
foreign_before_full_row room pass call foreign why = foreign why.0

memory_last_row : (room : RoomView) (pass : PassView) (call : Call) → WhyNot room pass call OutOfMemory → IsPassOf room pass × (length room.log < 65535)
memory_last_row room pass call why = (why.0, why.1)

-- which an undo never lacks
no_memory_for_undo_row : (room : RoomView) (pass : PassView) → WhyNot room pass Undo OutOfMemory → ⊥
no_memory_for_undo_row room pass why = why.2

-- ---- what a session is told

-- places count from 0, over all sessions
receipts_row : of_session 2 (entry 1 Undo AtStart ∷ entry 2 Redo AtEnd ∷ entry 1 Redo AtEnd ∷ entry 2 Undo AtStart ∷ [])
    ≡ receipt 1 Redo AtEnd ∷ receipt 3 Undo AtStart ∷ []
receipts_row = refl

-- the next place, and what one caller is told there
receipt_row : (sim : Held) (call : Call) → receipt_of (record { sim = sim; sessions = 2; log = entry 1 Undo AtStart ∷ entry 2 Redo AtEnd ∷ [] }) call
    ≡ receipt 2 call (served sim.seen call).reply
receipt_row sim call = refl

-- ---- when a room closes

-- a pass is missing
one_of_two_row : AreAll 2 (new_pass 1 ∷ []) → ⊥
one_of_two_row all = omega (arith, all.once 2 (omega arith, omega arith))

-- or there is one too many
twice_row : AreAll 1 (new_pass 1 ∷ new_pass 1 ∷ []) → ⊥
twice_row all = omega (arith, all.once 1 (omega arith, omega arith))

-- that a pass is missing comes before that one disagrees, and that before another base; of those that disagree the first session counts
missing_first_row : (room : RoomView) (passes : List PassView) (cluster : ClusterView) (pick : Pick) (session place : ℕ)
    → WhyOpen room passes cluster pick (Disagree session place) → AreAll room.sessions passes × All (λ p. p.session < session → Agrees room.log p) passes
missing_first_row room passes cluster pick session place why = (why.0, why.1.before)

base_last_row : (room : RoomView) (passes : List PassView) (cluster : ClusterView) (pick : Pick)
    → WhyOpen room passes cluster pick OtherBase → AreAll room.sessions passes × All (Agrees room.log) passes
base_last_row room passes cluster pick why = (why.0, why.1.0)

-- a pass agrees that was told its part of the log, all of it and in order
agrees_row : Agrees (entry 1 Undo AtStart ∷ entry 2 Redo AtEnd ∷ []) (record { session = 2; receipts = receipt 1 Redo AtEnd ∷ [] })
agrees_row = refl
