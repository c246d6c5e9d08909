-- A dist_ac at work on its mailbox: what it asks of the system, the lock of all that synchronise, and its turns.
use Rattle.std.specs.Prelude.{ℕ, zero, suc, List, [], ◌∷◌, ◌==◌, ◌&&◌, nat_le, length, filter, Bool, true, false, Option, Some, None, if◌then◌else◌}
use Rattle.std.specs.Option.{option_map}
use Rattle.rh_model.specs.declared.node.App.{App}
use Rattle.rh_model.specs.declared.node.Node.{Node}
use Rattle.rh_otp_model.specs.declared.message.Message.{Message}
use Rattle.rh_otp_model.specs.declared.output.Output.{Output}
use Rattle.rh_otp_model.specs.declared.output.Requester.TheVariants.{Sync, Alone}
use Rattle.rh_otp_model.specs.declared.process.Role.TheVariants as role
use Rattle.rh_otp_dist.specs.declared.outside.Need.{Need}
use Rattle.rh_otp_dist.specs.declared.outside.Need.TheVariants as need
use Rattle.rh_otp_dist.specs.declared.state.Stand.{Stand}
use Rattle.rh_otp_dist.specs.declared.state.Stand.TheVariants as stand
use Rattle.rh_otp_dist.specs.declared.turn.Asked.{Asked}
use Rattle.rh_otp_dist.specs.State.{DistView}
use Rattle.rh_otp_net.specs.Links as links
use Rattle.rh_otp_net.specs.Locks.{is_free, taken}
use Rattle.rh_otp_node.specs.Live.{LiveView}
use Rattle.rh_otp_node.specs.Remote as remote
use Rattle.rh_otp_node.specs.Turns.{weight_of, handled_by, introduced_by}
use Rattle.rh_otp_system.specs.declared.slow.Answered.{Answered}
use Rattle.rh_otp_system.specs.State.{SystemView, node_at, with_node, own_at, is_alive_at, has_dist_at, process_in}
use Rattle.rh_otp_system.specs.Outputs.{all_carried_out}

-- the node itself, and those that it sees, that with which it was connected first in front
abbrev pub around : SystemView → Node → List Node
around s n = links.around n s.links

-- those of these nodes that are alive
abbrev pub alive_of : SystemView → List Node → List Node
alive_of s nodes = filter (is_alive_at s) nodes

-- those of these nodes that have a dist_ac
abbrev pub dists_of : SystemView → List Node → List Node
dists_of s nodes = filter (has_dist_at s) nodes

-- ---- what it asks of the system before it handles a message

-- global:set_lock/3 with no retry, at its own node: does it get the lock?
abbrev pub own_lock : Node → SystemView → Bool
own_lock n s = is_free (Alone (process_in s n role.DistAc)) (n ∷ []) s.locks

abbrev pub with_own_lock : Node → SystemView → SystemView
with_own_lock n s =
    record s { locks = taken (Alone (process_in s n role.DistAc)) (process_in s n role.DistAc) (n ∷ []) s.locks }

-- the two nodes of an answer, that with the lower number first
abbrev pub pair_of : Node → Node → Option App → Answered
pair_of n other a =
    if nat_le n.0 other.0 then record { one = n; two = other; app = a } else record { one = other; two = n; app = a }

abbrev pub is_app : Option App → Option App → Bool
is_app (Some a) (Some b) = a.0 == b.0
is_app None None = true
is_app a b = false

-- is it an answer of the same two nodes?
abbrev pub is_answer : Answered → Answered → Bool
is_answer x y = x.one.0 == y.one.0 && x.two.0 == y.two.0 && is_app x.app y.app

abbrev pub answer_count : List Answered → Answered → ℕ
answer_count answers pair = length (filter (λ x. is_answer x pair) answers)

-- have these two answered one another so often that it has no end?
abbrev pub burns : Answered → SystemView → Bool
burns pair s = nat_le 20 (answer_count s.answers pair)

abbrev pub answered : Answered → SystemView → SystemView
answered pair s = record s { answers = pair ∷ s.answers }

-- what it is told: whether it has the lock of its node, and whether its answer has no end
abbrev pub asked_for : Node → Need → SystemView → Bool × Bool
asked_for n need.OwnLock s = (own_lock n s, false)
asked_for n (need.Answer other a) s = (false, burns (pair_of n other a) s)
asked_for n w s = (false, false)

abbrev pub prepared : Node → Need → SystemView → SystemView
prepared n need.OwnLock s = with_own_lock n s
prepared n (need.Answer other a) s = answered (pair_of n other a) s
prepared n w s = s

-- a turn of one of its processes: its state behind it, and then what it has done
abbrev pub behind : Node → LiveView × List Output → SystemView → SystemView
behind n pair s = all_carried_out n pair.1 (with_node n pair.0 s)

-- ---- sync_dacs/1

abbrev pub lock_of : Stand → Option (List Node)
lock_of (stand.ForLock nodes) = Some nodes
lock_of w = None

abbrev pub lock_in : Option DistView → Option (List Node)
lock_in None = None
lock_in (Some d) = lock_of d.stand

-- the nodes whose lock its dist_ac waits for, those that are alive, if it does
abbrev pub lock_nodes : Node → SystemView → Option (List Node)
lock_nodes n s = option_map (alive_of s) (lock_in (node_at s n).dist)

abbrev pub introduction : Node → List Node → SystemView → LiveView × List Output
introduction n others s = introduced_by s.cluster (own_at s n) n others (node_at s n)

-- introduce_me/2: to all nodes that it sees and that have a dist_ac
abbrev pub introduced : Node → SystemView → SystemView
introduced n s = behind n (introduction n (dists_of s (links.linked_with n s.links)) s) s

abbrev pub with_sync_lock : Node → List Node → SystemView → SystemView
with_sync_lock n nodes s = record s { locks = taken Sync (process_in s n role.DistAc) nodes s.locks }

-- the lock {dist_ac, sync_dacs} at these nodes, if it is free: all that synchronise have it together
abbrev pub take_lock_at : Node → List Node → SystemView → SystemView
take_lock_at n nodes s =
    if is_free Sync nodes s.locks then introduced n (with_sync_lock n nodes s) else with_sync_lock n nodes s

abbrev pub take_lock_of : Node → Option (List Node) → SystemView → SystemView
take_lock_of n None s = s
take_lock_of n (Some nodes) s = take_lock_at n nodes s

-- it goes on where it waits for the lock, if it does and the lock is free
unfoldable pub take_lock : Node → SystemView → SystemView
take_lock n s = take_lock_of n (lock_nodes n s) s

abbrev pub waiting_at : Node → List Node → SystemView → SystemView
waiting_at n nodes s = with_node n (remote.waiting_for_lock nodes (node_at s n)) s

-- handle_cast(init_sync, ..): it asks for the lock of all nodes that it sees now
unfoldable pub gone : Node → SystemView → SystemView
gone n s = take_lock n (waiting_at n (around s n) s)

-- ---- its mailbox

abbrev pub need_at : SystemView → Node → Need
need_at s n = remote.need_of (node_at s n)

abbrev pub has_next_at : SystemView → Node → Bool
has_next_at s n = remote.has_next (node_at s n)

abbrev pub mail_count_at : SystemView → Node → ℕ
mail_count_at s n = remote.mail_count (node_at s n)

-- what it is told
abbrev pub asked_at : Node → Bool → Bool → SystemView → Asked
asked_at n has_lock burning s = record { weight = weight_of s.cluster n (node_at s n); has_lock = has_lock; burns = burning }

abbrev pub turn_of : Node → Asked → SystemView → LiveView × List Output
turn_of n asked s = handled_by s.cluster (own_at s n) n asked (node_at s n)

-- the turn itself, with what it was told
abbrev pub behind_turn : Node → Bool → Bool → SystemView → SystemView
behind_turn n has_lock burning s = behind n (turn_of n (asked_at n has_lock burning s) s) s

-- where its node's wait is over it goes on to synchronise
abbrev pub gone_if : Node → Need → SystemView → SystemView
gone_if n need.Lock s = gone n s
gone_if n w s = s

-- it handles the message that it takes next
abbrev pub handled_for : Node → Need → Bool × Bool → SystemView → SystemView
handled_for n w told s = gone_if n w (behind_turn n told.0 told.1 (prepared n w s))

unfoldable pub handled : Node → SystemView → SystemView
handled n s = handled_for n (need_at s n) (asked_for n (need_at s n) s) s

-- so many messages at most
abbrev pub work_for : ℕ → Node → SystemView → SystemView
work_for zero n s = s
work_for (suc k) n s = if has_next_at s n then work_for k n (handled n s) else s

-- It handles what can be handled of its mailbox: no more than there is in it now, since nothing comes into it meanwhile.
unfoldable pub work : Node → SystemView → SystemView
work n s = work_for (mail_count_at s n) n s

abbrev pub with_mail : Node → Message → SystemView → SystemView
with_mail n m s = with_node n (remote.mailed m (node_at s n)) s

-- a message comes into its mailbox, and it goes on as far as it can
unfoldable pub mailed : Node → Message → SystemView → SystemView
mailed n m s = work n (with_mail n m s)
