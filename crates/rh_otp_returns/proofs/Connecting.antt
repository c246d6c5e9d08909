-- In all that live nodes reach two nodes are connected at most once, and no node with itself.
use Rattle.std.proofs.Common.{◌≡◌, ℕ, ◌&&◌, List, [], ◌∷◌, length, Option, Some, None, slice_get, refl, sym, subst, arith}
use Rattle.std.specs.List.{remove}
use Rattle.rh_model.specs.declared.node.App.{App}
use Rattle.rh_model.specs.declared.node.Node.{Node}
use Rattle.rh_otp_model.specs.declared.message.Message.{Message}
use Rattle.rh_otp_model.specs.declared.message.Message.TheVariants as message
use Rattle.rh_otp_model.specs.declared.process.Process.{Process}
use Rattle.rh_otp_model.specs.declared.process.Role.{Role}
use Rattle.rh_otp_model.specs.declared.process.Role.TheVariants as role
use Rattle.rh_otp_model.specs.declared.output.Envelope.{Envelope}
use Rattle.rh_otp_model.specs.declared.wait.Wait.{Wait}
use Rattle.rh_otp_model.specs.declared.wait.Wait.TheVariants as wait
use Rattle.rh_otp_net.specs.declared.links.Link.{Link}
use Rattle.rh_otp_net.specs.Links as links
use Rattle.rh_otp_net.specs.Queue.{first_of_pair}
use Rattle.rh_otp_node.specs.Turns.{controlled_by}
use Rattle.rh_otp_system.specs.declared.calls.Ask.{Ask}
use Rattle.rh_otp_system.specs.declared.calls.Call.{Call}
use Rattle.rh_otp_system.specs.declared.moves.Move.{Move}
use Rattle.rh_otp_system.specs.declared.moves.Move.TheVariants as move
use Rattle.rh_otp_system.specs.declared.slow.Slow.{Slow}
use Rattle.rh_otp_system.specs.declared.slow.Slow.TheVariants as slow
use Rattle.rh_otp_system.specs.Calls.{is_takeover}
use Rattle.rh_otp_system.specs.State.{SystemView, node_at, own_at, wait_at, is_alive_at, is_up_at, lives, process_in}
use Rattle.rh_otp_system.specs.Ending as ending
use Rattle.rh_otp_system.specs.Joining as joining
use Rattle.rh_otp_system.specs.Delivering as delivering
use Rattle.rh_otp_system.specs.Moves as moves
use Rattle.rh_otp_system.specs.Doing as doing
use Rattle.std.proofs.lemmas.List.Elements.{All-nil}
use Rattle.rh_otp_system.specs.Resting.{crashed, rested, forgotten}
use Rattle.rh_otp_laws.specs.Acting as acting
use Rattle.rh_otp_laws.specs.Acting.{Acts, begins, crashes, calls, Happens, acts, fires, passes, ticks, settles, rests, forgets, takes_up, IsReached, new, later}
use Rattle.rh_otp_laws.specs.Knowing.{EndsAlone}
use Rattle.rh_otp_laws.proofs.Crashing.{ends_alone}
use Rattle.rh_otp_laws.proofs.Time.{due_fire}
use Rattle.rh_otp_joins.proofs.Seeing.{IsApart}
use Rattle.rh_otp_returns.proofs.Single.{JoinsTwo, AreSingle, left_so, less_slow, at_place}
use Rattle.rh_otp_returns.proofs.Staying.{Stays, same, either, ◌past◌, stays_connect, stays_reach, stays_behind, stays_lock, stays_work, stays_mailed, stays_stopped, stays_join, stays_go_on, stays_seen, stays_boot_next, stays_boot, stays_go_on_call, stays_call_received, stays_after}

stays_ended : (n : Node) (s : SystemView) → Stays s (ending.ended n s)
stays_ended n s =
    let over : EndsAlone n s (crashed n s) = ends_alone s n in
    record {
      single = λ so. subst (λ (l : List Link). AreSingle l (ending.ended n s).slow) (sym over.links)
          (subst (AreSingle (links.without_node n s.links)) (sym over.slow) (left_so n s.links s.slow so));
    }

stays_timed_out : (n : Node) (s : SystemView) → Stays s (joining.timed_out n s)
stays_timed_out n s = either (joining.lacks_mandatory n s) _ _ s (stays_ended n s) (stays_join n s)

stays_kernel_handled : (n : Node) (m : Message) (s : SystemView) → Stays s (joining.kernel_handled n m s)
stays_kernel_handled n message.Timeout s = stays_timed_out n s
stays_kernel_handled n (message.NodeUp other) s = stays_seen n other s
stays_kernel_handled n m s = same

stays_kernel : (n : Node) (m : Message) (s : SystemView) → Stays s (joining.kernel_received n m s)
stays_kernel n m s = either (is_up_at s n) _ _ s same (stays_kernel_handled n m s)

-- ---- Delivering

stays_received : (r : Role) (n : Node) (m : Message) (s : SystemView) → Stays s (delivering.received_in r n m s)
stays_received role.Controller n m s = stays_behind n (controlled_by s.cluster (own_at s n) n m (node_at s n)) s
stays_received role.DistAc n m s = stays_mailed n m s
stays_received role.KernelConfig n m s = stays_kernel n m s
stays_received role.Boot n m s = stays_boot n m s
stays_received role.System n m s = stays_ended n s
stays_received (role.Call number) n m s = stays_call_received number m s
stays_received r n m s = same

stays_arrived : (to : Process) (m : Message) (s : SystemView) → Stays s (delivering.arrived to m s)
stays_arrived to m s = either (lives s to) _ _ s (stays_received to.role to.node m s) same

stays_arrived_at : (place : ℕ) (found : Option Envelope) (s : SystemView) → Stays s (delivering.arrived_at place found s)
stays_arrived_at place None s = same
stays_arrived_at place (Some e) s = stays_arrived e.to e.message (record s { messages = remove s.messages place })

stays_delivered : (place : ℕ) (s : SystemView) → Stays s (delivering.delivered place s)
unfolding delivering.delivered
stays_delivered place s =
    stays_arrived_at (first_of_pair s.messages place) (slice_get s.messages (first_of_pair s.messages place)) s

-- ---- Moves

-- what takes longer comes about
stays_slow : (place : ℕ) (s : SystemView) → Stays s (moves.slow_done place s)
unfolding delivering.slowed
stays_slow place s = record { single = λ so. by so (slice_get s.slow place) refl }
  where
    left : SystemView
    left = record s { slow = remove s.slow place }

    by : AreSingle s.links s.slow → (found : Option Slow) → slice_get s.slow place ≡ found
        → AreSingle (moves.slow_done_if place found s).links (moves.slow_done_if place found s).slow
    by so None is = so
    by so (Some (slow.Connect one two)) is =
        (either (is_alive_at left one && is_alive_at left two) _ _ left
        (stays_connect one two left (at_place s.slow place (slow.Connect one two) so.coming is)) same).single
        (less_slow s.links s.slow place so)
    by so (Some (slow.Boot n)) is =
        (either (is_alive_at left n) _ _ left (stays_boot_next n None left) same).single (less_slow s.links s.slow place so)

stays_locked : (n : Node) (s : SystemView) → Stays s (moves.locked n s)
stays_locked n s = stays_work n _ past either (moves.can_take_lock n s) _ _ s (stays_lock n s) same

stays_to_end : (n : Node) (s : SystemView) → Stays s (moves.to_end n s)
stays_to_end n s = either s.ends_soon _ _ s (stays_ended n s) (stays_stopped n s)

stays_made : (next : Move) (s : SystemView) → Stays s (moves.made next s)
unfolding moves.made
stays_made (move.Deliver place) s = stays_delivered place s
stays_made (move.Slow place) s = stays_slow place s
stays_made (move.Lock n) s = stays_locked n s
stays_made (move.Call place) s = stays_go_on_call place s
stays_made (move.End n) s = stays_to_end n s

-- ---- Doing

stays_seen_at_once : (n other : Node) (s : SystemView) → Stays s (doing.seen_at_once n other s)
stays_seen_at_once n other s = either (is_alive_at s other) _ _ s (stays_reach n other s) same

stays_all_seen : (n : Node) (others : List Node) (s : SystemView) → Stays s (doing.all_seen n others s)
stays_all_seen n [] s = same
stays_all_seen n (other ∷ others) s = stays_all_seen n others (doing.seen_at_once n other s) past stays_seen_at_once n other s

stays_timeout : (n : Node) (time : Option ℕ) (s : SystemView) → Stays s (doing.with_timeout n time s)
stays_timeout n None s = same
stays_timeout n (Some time) s = stays_after time (process_in s n role.KernelConfig) message.Timeout s

stays_waited_for : (n : Node) (time : Option ℕ) (s : SystemView) → Stays s (doing.waited_for n time s)
unfolding doing.waited_for
stays_waited_for n time s =
    let seen : SystemView = doing.all_seen n (node_at s n).mandatory s in
    let all : SystemView = doing.all_seen n (node_at s n).optional seen in
    stays_go_on n (doing.with_timeout n time all) past stays_timeout n time all past stays_all_seen n (node_at s n).optional seen
    past stays_all_seen n (node_at s n).mandatory s

stays_waited : (w : Wait) (n : Node) (s : SystemView) → Stays s (doing.waited w n s)
stays_waited wait.Unset n s = stays_join n s
stays_waited wait.Refused n s = stays_ended n s
stays_waited (wait.After time) n s = stays_waited_for n (Some time) s
stays_waited wait.Forever n s = stays_waited_for n None s

stays_booted : (n : Node) (s : SystemView) → Stays (doing.begun_at n s) (doing.booted n s)
unfolding doing.booted
stays_booted n s = stays_waited (wait_at s n) n (doing.begun_at n s)

stays_first : (place : ℕ) (call : Call) (s : SystemView) → Stays s (doing.first_done place call s)
stays_first place call s = either (is_takeover call.ask) _ _ s (stays_go_on_call place s) same

stays_called : (a : Ask) (n : Node) (app : App) (s : SystemView) → Stays s (doing.called a n app s)
unfolding doing.called
stays_called a n app s =
    let call : Call = doing.call_of a n app s in
    stays_first (length s.calls) call (doing.with_call call s)

-- ---- whatever happens

acts_single : (s t : SystemView) → Acts s t → Stays s t
acts_single _ _ (acting.moves s next possible) = stays_made next s
acts_single _ _ (begins s n there down) = stays_booted n s
acts_single _ _ (crashes s n) = stays_ended n s
acts_single _ _ (calls s a n app) = stays_called a n app s

rested_single : (s : SystemView) → Stays s (rested s)
unfolding rested
rested_single s = same

forgotten_single : (s : SystemView) → Stays s (forgotten s)
unfolding forgotten
forgotten_single s = same

happens_single : (s t : SystemView) → Happens s t → Stays s t
happens_single _ _ (acts s t one) = acts_single s t one
happens_single _ _ (fires s due step next) = subst (Stays s) (sym (due_fire s due)) same
happens_single _ _ (passes s time on none) = same
happens_single _ _ (ticks s ticking) = same
happens_single _ _ (settles s) = same
happens_single _ _ (rests s) = rested_single s
happens_single _ _ (forgets s) = forgotten_single s
happens_single _ _ (takes_up s cells told ends_soon quiet nodes) =
    record { single = λ so. record { once = so.once; apart = so.apart; coming = All-nil JoinsTwo } }

-- In all that live nodes reach two nodes are connected at most once, and no node with itself.
pub all_single : (s : SystemView) → IsReached s → AreSingle s.links s.slow
all_single _ (new s is) =
    subst (λ (l : List Link). AreSingle l s.slow) (sym is.links) (subst (AreSingle []) (sym is.slow) (record {
      once = λ i j d below within. absurd (omega (arith, within));
      apart = All-nil IsApart;
      coming = All-nil JoinsTwo;
    }))
all_single _ (later s t before one) = (happens_single s t one).single (all_single s before)
