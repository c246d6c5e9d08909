-- Each move leaves nodes connected, or a node ends, which takes its connections away.
use Rattle.std.proofs.Common.{◌≡◌, ◌⊎◌, ℕ, Bool, true, false, cond, ◌&&◌, List, length, Option, Some, None, slice_get, inl, inr}
use Rattle.std.specs.List.{remove}
use Rattle.rh_model.specs.declared.node.App.{App}
use Rattle.rh_model.specs.declared.node.Node.{Node}
use Rattle.rh_otp_model.specs.declared.message.Message.{Message}
use Rattle.rh_otp_model.specs.declared.message.Message.TheVariants as message
use Rattle.rh_otp_model.specs.declared.process.Process.{Process}
use Rattle.rh_otp_model.specs.declared.process.Role.{Role}
use Rattle.rh_otp_model.specs.declared.process.Role.TheVariants as role
use Rattle.rh_otp_model.specs.declared.output.Envelope.{Envelope}
use Rattle.rh_otp_model.specs.declared.wait.Wait.{Wait}
use Rattle.rh_otp_model.specs.declared.wait.Wait.TheVariants as wait
use Rattle.rh_otp_net.specs.declared.links.Link.{Link}
use Rattle.rh_otp_net.specs.Links as links
use Rattle.rh_otp_net.specs.Queue.{first_of_pair}
use Rattle.rh_otp_node.specs.Turns.{controlled_by}
use Rattle.rh_otp_system.specs.declared.calls.Ask.{Ask}
use Rattle.rh_otp_system.specs.declared.calls.Call.{Call}
use Rattle.rh_otp_system.specs.declared.moves.Move.{Move}
use Rattle.rh_otp_system.specs.declared.moves.Move.TheVariants as move
use Rattle.rh_otp_system.specs.declared.slow.Slow.{Slow}
use Rattle.rh_otp_system.specs.declared.slow.Slow.TheVariants as slow
use Rattle.rh_otp_system.specs.Calls.{is_takeover}
use Rattle.rh_otp_system.specs.State.{SystemView, node_at, own_at, wait_at, is_alive_at, is_up_at, lives}
use Rattle.rh_otp_system.specs.Ending as ending
use Rattle.rh_otp_system.specs.Joining as joining
use Rattle.rh_otp_system.specs.Delivering as delivering
use Rattle.rh_otp_system.specs.Moves as moves
use Rattle.rh_otp_system.specs.Doing as doing
use Rattle.rh_otp_laws.proofs.Crashing.{ends_alone}
use Rattle.rh_otp_waits.proofs.Growing.{Grows, same, either, ◌past◌, grows_connect, grows_behind, grows_lock, grows_work, grows_mailed, grows_stopped, grows_join, grows_go_on, grows_seen, grows_boot_next, grows_boot, grows_go_on_call, grows_call_received}
use Rattle.rh_otp_waits.proofs.Seeing.{grows_all_seen, grows_timeout}

-- a node has ended, and its connections are over
pub record IsOver (old : List Link) (t : SystemView) : Type 0 where
  pub gone : Node
  pub down : is_alive_at t gone ≡ false
  pub left : t.links ≡ links.without_node gone old

abbrev pub Goes : SystemView → SystemView → Type 0
Goes s t = Grows s t ⊎ IsOver s.links t

either_goes : (b : Bool) (x y s : SystemView) → Goes s x → Goes s y → Goes s (cond b x y)
either_goes true x y s p q = p
either_goes false x y s p q = q

goes_ended : (n : Node) (s : SystemView) → Goes s (ending.ended n s)
goes_ended n s = inr (record { gone = n; down = (ends_alone s n).itself; left = (ends_alone s n).links })

goes_timed_out : (n : Node) (s : SystemView) → Goes s (joining.timed_out n s)
goes_timed_out n s = either_goes (joining.lacks_mandatory n s) _ _ s (goes_ended n s) (inl (grows_join n s))

goes_kernel_handled : (n : Node) (m : Message) (s : SystemView) → Goes s (joining.kernel_handled n m s)
goes_kernel_handled n message.Timeout s = goes_timed_out n s
goes_kernel_handled n (message.NodeUp other) s = inl (grows_seen n other s)
goes_kernel_handled n m s = inl same

goes_kernel : (n : Node) (m : Message) (s : SystemView) → Goes s (joining.kernel_received n m s)
goes_kernel n m s = either_goes (is_up_at s n) _ _ s (inl same) (goes_kernel_handled n m s)

-- ---- Delivering

goes_received : (r : Role) (n : Node) (m : Message) (s : SystemView) → Goes s (delivering.received_in r n m s)
goes_received role.Controller n m s = inl (grows_behind n (controlled_by s.cluster (own_at s n) n m (node_at s n)) s)
goes_received role.DistAc n m s = inl (grows_mailed n m s)
goes_received role.KernelConfig n m s = goes_kernel n m s
goes_received role.Boot n m s = inl (grows_boot n m s)
goes_received role.System n m s = goes_ended n s
goes_received (role.Call number) n m s = inl (grows_call_received number m s)
goes_received r n m s = inl same

goes_arrived : (to : Process) (m : Message) (s : SystemView) → Goes s (delivering.arrived to m s)
goes_arrived to m s = either_goes (lives s to) _ _ s (goes_received to.role to.node m s) (inl same)

goes_arrived_at : (place : ℕ) (found : Option Envelope) (s : SystemView) → Goes s (delivering.arrived_at place found s)
goes_arrived_at place None s = inl same
goes_arrived_at place (Some e) s = goes_arrived e.to e.message (record s { messages = remove s.messages place })

goes_delivered : (place : ℕ) (s : SystemView) → Goes s (delivering.delivered place s)
unfolding delivering.delivered
goes_delivered place s =
    goes_arrived_at (first_of_pair s.messages place) (slice_get s.messages (first_of_pair s.messages place)) s

grows_slowed : (what : Slow) (s : SystemView) → Grows s (delivering.slowed what s)
unfolding delivering.slowed
grows_slowed (slow.Connect one two) s = either (is_alive_at s one && is_alive_at s two) _ _ s (grows_connect one two s) same
grows_slowed (slow.Boot n) s = either (is_alive_at s n) _ _ s (grows_boot_next n None s) same

-- ---- Moves

grows_slow_if : (place : ℕ) (found : Option Slow) (s : SystemView) → Grows s (moves.slow_done_if place found s)
grows_slow_if place None s = same
grows_slow_if place (Some what) s = grows_slowed what _

grows_locked : (n : Node) (s : SystemView) → Grows s (moves.locked n s)
grows_locked n s = grows_work n _ past either (moves.can_take_lock n s) _ _ s (grows_lock n s) same

goes_to_end : (n : Node) (s : SystemView) → Goes s (moves.to_end n s)
goes_to_end n s = either_goes s.ends_soon _ _ s (goes_ended n s) (inl (grows_stopped n s))

pub goes_made : (next : Move) (s : SystemView) → Goes s (moves.made next s)
unfolding moves.made
goes_made (move.Deliver place) s = goes_delivered place s
goes_made (move.Slow place) s = inl (grows_slow_if place (slice_get s.slow place) s)
goes_made (move.Lock n) s = inl (grows_locked n s)
goes_made (move.Call place) s = inl (grows_go_on_call place s)
goes_made (move.End n) s = goes_to_end n s

-- ---- Doing

grows_waited_for : (n : Node) (time : Option ℕ) (s : SystemView) → Grows s (doing.waited_for n time s)
unfolding doing.waited_for
grows_waited_for n time s =
    let seen : SystemView = doing.all_seen n (node_at s n).mandatory s in
    let all : SystemView = doing.all_seen n (node_at s n).optional seen in
    grows_go_on n (doing.with_timeout n time all) past grows_timeout n time all past grows_all_seen n (node_at s n).optional seen
    past grows_all_seen n (node_at s n).mandatory s

goes_waited : (w : Wait) (n : Node) (s : SystemView) → Goes s (doing.waited w n s)
goes_waited wait.Unset n s = inl (grows_join n s)
goes_waited wait.Refused n s = goes_ended n s
goes_waited (wait.After time) n s = inl (grows_waited_for n (Some time) s)
goes_waited wait.Forever n s = inl (grows_waited_for n None s)

pub goes_booted : (n : Node) (s : SystemView) → Goes (doing.begun_at n s) (doing.booted n s)
unfolding doing.booted
goes_booted n s = goes_waited (wait_at s n) n (doing.begun_at n s)

grows_first : (place : ℕ) (call : Call) (s : SystemView) → Grows s (doing.first_done place call s)
grows_first place call s = either (is_takeover call.ask) _ _ s (grows_go_on_call place s) same

pub grows_called : (a : Ask) (n : Node) (app : App) (s : SystemView) → Grows s (doing.called a n app s)
unfolding doing.called
grows_called a n app s =
    let call : Call = doing.call_of a n app s in
    grows_first (length s.calls) call (doing.with_call call s)
