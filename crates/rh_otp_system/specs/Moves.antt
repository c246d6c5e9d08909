-- What can move, and that it moves until nothing does. Which of several things moves next is left open by `IsPossible`; `next_move` is
-- the choice of an order.
use Rattle.std.specs.Prelude.{◌≡◌, ◌<◌, ℕ, zero, suc, List, [], ◌∷◌, ◌&&◌, ◌||◌, not, Bool, true, false, find, length, slice_get, Option, Some, None, if◌then◌else◌}
use Rattle.std.specs.List.{list_any, remove}
use Rattle.std.specs.Option.{option_map}
use Rattle.rh_model.specs.declared.node.App.{App}
use Rattle.rh_model.specs.declared.node.Node.{Node}
use Rattle.rh_otp_model.specs.declared.output.Envelope.{Envelope}
use Rattle.rh_otp_model.specs.declared.output.Requester.TheVariants.{Sync, Alone}
use Rattle.rh_otp_model.specs.declared.process.Process.{Process}
use Rattle.rh_otp_model.specs.declared.process.Role.TheVariants as role
use Rattle.rh_otp_dist.specs.declared.state.Stand.{Stand}
use Rattle.rh_otp_dist.specs.declared.state.Stand.TheVariants as stand
use Rattle.rh_otp_dist.specs.State.{DistView}
use Rattle.rh_otp_net.specs.Alike.{is_process}
use Rattle.rh_otp_net.specs.declared.order.Order.{Order}
use Rattle.rh_otp_net.specs.Locks.{is_free}
use Rattle.rh_otp_net.specs.Order.{place_in, next_order}
use Rattle.rh_otp_node.specs.Live.{is_ending}
use Rattle.rh_otp_node.specs.Remote as remote
use Rattle.rh_otp_system.specs.declared.calls.Call.{Call}
use Rattle.rh_otp_system.specs.declared.moves.Move.{Move}
use Rattle.rh_otp_system.specs.declared.moves.Move.TheVariants as move
use Rattle.rh_otp_system.specs.declared.slow.Slow.{Slow}
use Rattle.rh_otp_system.specs.Calls.{process_of}
use Rattle.rh_otp_system.specs.State.{SystemView, node_at, with_node, process_in}
use Rattle.rh_otp_system.specs.Working.{lock_nodes, take_lock, work}
use Rattle.rh_otp_system.specs.Delivering.{delivered, slowed}
use Rattle.rh_otp_system.specs.Calling.{can_go_on, go_on_call}
use Rattle.rh_otp_system.specs.Ending.{ended, stopped}

abbrev pub is_among_sleepers : Process → SystemView → Bool
is_among_sleepers p s = list_any (λ (q : Process). is_process q p) s.asleep

-- Is the process awake? Who found a lock held sleeps for a random time before it asks again (global:random_sleep/1): here, as long as no
-- time passes.
abbrev pub is_awake : Process → SystemView → Bool
is_awake p s = s.is_ticking || not (is_among_sleepers p s)

abbrev pub is_sync_free : Node → Option (List Node) → SystemView → Bool
is_sync_free n None s = false
is_sync_free n (Some nodes) s = is_awake (process_in s n role.DistAc) s && is_free Sync nodes s.locks

-- is the lock of all that synchronise free, and does the node's dist_ac wait for it?
abbrev pub can_take_lock : Node → SystemView → Bool
can_take_lock n s = is_sync_free n (lock_nodes n s) s

abbrev pub is_idle : Stand → Bool
is_idle stand.Idle = true
is_idle w = false

abbrev pub is_some_app : List App → Bool
is_some_app [] = false
is_some_app (a ∷ apps) = true

abbrev pub can_unpark_in : Node → Option DistView → SystemView → Bool
can_unpark_in n None s = false
can_unpark_in n (Some d) s =
    is_idle d.stand && is_some_app d.parked && is_free (Alone (process_in s n role.DistAc)) (n ∷ []) s.locks

-- is the lock of the node free, and was a start request parked that asks for it?
abbrev pub can_unpark : Node → SystemView → Bool
can_unpark n s = can_unpark_in n (node_at s n).dist s

-- can its dist_ac go on with a lock?
abbrev pub can_go_on_at : Node → SystemView → Bool
can_go_on_at n s = can_take_lock n s || can_unpark n s

-- can the call go on, and is it awake?
abbrev pub can_call : Call → SystemView → Bool
can_call call s = is_awake (process_of call) s && can_go_on call s

-- the place of the first of these calls that can, where they begin at a place
abbrev pub first_call_from : ℕ → List Call → SystemView → Option ℕ
first_call_from place [] s = None
first_call_from place (call ∷ calls) s = if can_call call s then Some place else first_call_from (suc place) calls s

abbrev pub first_call : SystemView → Option ℕ
first_call s = first_call_from 0 s.calls s

-- has the node to go on to its end?
abbrev pub is_to_end : Node → SystemView → Bool
is_to_end n s = is_ending (node_at s n) && (s.ends_soon || not (node_at s n).is_stopped)

-- the first node whose dist_ac can go on with a lock
abbrev pub next_node : SystemView → Option Node
next_node s = find (λ n. can_go_on_at n s) s.alive

-- the first node that has to go on to its end
abbrev pub next_end : SystemView → Option Node
next_end s = find (λ n. is_to_end n s) s.alive

abbrev pub call_or_end : Option ℕ → SystemView → Option Move
call_or_end (Some place) s = Some (move.Call place)
call_or_end None s = option_map move.End (next_end s)

abbrev pub lock_or_more : Option Node → SystemView → Option Move
lock_or_more (Some n) s = Some (move.Lock n)
lock_or_more None s = call_or_end (first_call s) s

-- what moves next where nothing is on its way
abbrev pub quiet_move : SystemView → Option Move
quiet_move s = lock_or_more (next_node s) s

abbrev pub slow_or_more : Order → List Slow → SystemView → Option Move
slow_or_more order [] s = quiet_move s
slow_or_more order (what ∷ slow) s = Some (move.Slow (place_in order (length (what ∷ slow))))

abbrev pub message_or_more : Order → List Envelope → SystemView → Option Move
message_or_more order [] s = slow_or_more order s.slow s
message_or_more order (e ∷ messages) s = Some (move.Deliver (place_in order (length (e ∷ messages))))

-- what moves next in this order, if anything does
abbrev pub next_move : Order → SystemView → Option Move
next_move order s = message_or_more order s.messages s

-- ---- that it moves

abbrev pub slow_done_if : ℕ → Option Slow → SystemView → SystemView
slow_done_if place None s = s
slow_done_if place (Some what) s = slowed what (record s { slow = remove s.slow place })

-- what takes longer, and stands at this place, comes about
abbrev pub slow_done : ℕ → SystemView → SystemView
slow_done place s = slow_done_if place (slice_get s.slow place) s

-- the first start request that was parked is sent again
abbrev pub unparked : Node → SystemView → SystemView
unparked n s = with_node n (remote.unparked (node_at s n)) s

-- a dist_ac goes on with a lock, and then with its mailbox
abbrev pub locked : Node → SystemView → SystemView
locked n s = work n (if can_take_lock n s then take_lock n s else unparked n s)

-- a node goes on to its end
abbrev pub to_end : Node → SystemView → SystemView
to_end n s = if s.ends_soon then ended n s else stopped n s

-- it moves
unfoldable pub made : Move → SystemView → SystemView
made (move.Deliver place) s = delivered place s
made (move.Slow place) s = slow_done place s
made (move.Lock n) s = locked n s
made (move.Call place) s = go_on_call place s
made (move.End n) s = to_end n s

-- ---- until nothing moves

-- a move, and then so on, if anything moves
abbrev pub moved_by : (SystemView → SystemView) → Option Move → SystemView → SystemView
moved_by go_on None s = s
moved_by go_on (Some next) s = go_on (made next s)

-- so many moves at most, in this order
abbrev pub moved : ℕ → Order → SystemView → SystemView
moved zero order s = s
moved (suc most) order s = moved_by (moved most (next_order order)) (next_move order s) s

abbrev pub is_quiet_by : (SystemView → Bool) → Option Move → SystemView → Bool
is_quiet_by go_on None s = true
is_quiet_by go_on (Some next) s = go_on (made next s)

-- was it quiet before so many moves were made?
abbrev pub is_quiet_behind : ℕ → Order → SystemView → Bool
is_quiet_behind zero order s = false
is_quiet_behind (suc most) order s = is_quiet_by (is_quiet_behind most (next_order order)) (next_move order s) s

abbrev pub settled : ℕ → Order → SystemView → SystemView
settled most order s = moved most order (record s { answers = [] })

abbrev pub is_settled_by : ℕ → Order → SystemView → Bool
is_settled_by most order s = is_quiet_behind most order (record s { answers = [] })

-- ---- what the rules allow

-- nothing is on its way
abbrev pub IsQuiet : SystemView → Type 0
IsQuiet s = (s.messages ≡ []) × (s.slow ≡ [])

abbrev pub IsAmong : Node → List Node → Type 0
IsAmong n nodes = (place : ℕ) × (slice_get nodes place ≡ Some n)

abbrev pub IsCallable : Option Call → SystemView → Type 0
IsCallable found s = (call : Call) × (found ≡ Some call) × (can_call call s ≡ true)

-- It can move now: there is such a message, in any place; or where no message is on its way, something slow; or where nothing is, the
-- dist_ac of a node that is alive goes on with a lock, a call goes on, or a node that is alive has to end.
abbrev pub IsPossible : SystemView → Move → Type 0
IsPossible s (move.Deliver place) = place < length s.messages
IsPossible s (move.Slow place) = (s.messages ≡ []) × (place < length s.slow)
IsPossible s (move.Lock n) = IsQuiet s × IsAmong n s.alive × (can_go_on_at n s ≡ true)
IsPossible s (move.Call place) = IsQuiet s × IsCallable (slice_get s.calls place) s
IsPossible s (move.End n) = IsQuiet s × IsAmong n s.alive × (is_to_end n s ≡ true)

-- one move leads from the one to the other
abbrev pub Delivers : SystemView → SystemView → Type 0
Delivers s t = (next : Move) × IsPossible s next × (t ≡ made next s)

-- moves one after the other
pub data Reaches : SystemView → SystemView → Type 0 where
  here : (s : SystemView) → Reaches s s
  behind_one : (s t u : SystemView) → Delivers s t → Reaches t u → Reaches s u

-- nothing can move any more
abbrev pub IsSettled : SystemView → Type 0
IsSettled s = (next : Move) → IsPossible s next → ⊥
