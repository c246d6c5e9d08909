-- No rule changes the cells that a system began with: what it writes stands apart.
use Rattle.std.proofs.Common.{◌≡◌, ℕ, zero, suc, Bool, true, false, cond, ◌&&◌, ◌==◌, ◌+◌, ◌^◌, nat_lt, List, [], ◌∷◌, length, Option, Some, None, slice_get, refl, ◌∙◌}
use Rattle.std.specs.List.{remove}
use Rattle.rh_model.specs.declared.node.App.{App}
use Rattle.rh_model.specs.declared.node.Node.{Node}
use Rattle.rh_model.specs.declared.settings.Restart.{Restart}
use Rattle.rh_otp_model.specs.declared.fault.Fault.{Fault}
use Rattle.rh_otp_model.specs.declared.fault.Outcome.{Outcome}
use Rattle.rh_otp_model.specs.declared.message.Message.{Message}
use Rattle.rh_otp_model.specs.declared.message.Message.TheVariants as message
use Rattle.rh_otp_model.specs.declared.output.Event.{Event}
use Rattle.rh_otp_model.specs.declared.output.Event.TheVariants as event
use Rattle.rh_otp_model.specs.declared.output.Output.{Output}
use Rattle.rh_otp_model.specs.declared.output.Output.TheVariants as output
use Rattle.rh_otp_model.specs.declared.output.Requester.TheVariants.{Sync, Alone}
use Rattle.rh_otp_model.specs.declared.process.Process.{Process}
use Rattle.rh_otp_model.specs.declared.process.Role.{Role}
use Rattle.rh_otp_model.specs.declared.process.Role.TheVariants as role
use Rattle.rh_otp_model.specs.declared.output.Envelope.{Envelope}
use Rattle.rh_otp_model.specs.declared.wait.Wait.{Wait}
use Rattle.rh_otp_model.specs.declared.wait.Wait.TheVariants as wait
use Rattle.rh_otp_dist.specs.declared.outside.Need.{Need}
use Rattle.rh_otp_dist.specs.declared.outside.Need.TheVariants as need
use Rattle.rh_otp_net.specs.declared.links.Link.{Link}
use Rattle.rh_otp_net.specs.declared.order.Order.{Order}
use Rattle.rh_otp_net.specs.declared.timers.Timer.{Timer}
use Rattle.rh_otp_net.specs.Links as links
use Rattle.rh_otp_net.specs.Locks.{is_free}
use Rattle.rh_otp_net.specs.Order.{next_order}
use Rattle.rh_otp_net.specs.Queue.{first_of_pair}
use Rattle.rh_otp_net.specs.Timers as timers
use Rattle.rh_otp_node.specs.Kernel as kernel
use Rattle.rh_otp_node.specs.Live.{LiveView}
use Rattle.rh_otp_node.specs.Remote as remote
use Rattle.rh_otp_node.specs.Turns.{controlled_by, terminated_by}
use Rattle.rh_otp_system.specs.declared.calls.Ask.{Ask}
use Rattle.rh_otp_system.specs.declared.calls.Call.{Call}
use Rattle.rh_otp_system.specs.declared.calls.Stage.{Stage}
use Rattle.rh_otp_system.specs.declared.calls.Stage.TheVariants as stage
use Rattle.rh_otp_system.specs.declared.cell.Cell.{Cell}
use Rattle.rh_otp_system.specs.declared.moves.Move.{Move}
use Rattle.rh_otp_system.specs.declared.moves.Move.TheVariants as move
use Rattle.rh_otp_system.specs.declared.slow.Slow.{Slow}
use Rattle.rh_otp_system.specs.declared.slow.Slow.TheVariants as slow
use Rattle.rh_otp_system.specs.Calls.{process_of, is_takeover}
use Rattle.rh_otp_system.specs.State.{SystemView, node_at, with_node, own_at, wait_at, has_dist_at, is_alive_at, is_up_at, lives}
use Rattle.rh_otp_system.specs.Sending.{observed, told, after}
use Rattle.rh_otp_system.specs.Connecting as connecting
use Rattle.rh_otp_system.specs.Outputs.{free, carried_out, all_carried_out}
use Rattle.rh_otp_system.specs.Working as working
use Rattle.rh_otp_system.specs.Ending as ending
use Rattle.rh_otp_system.specs.Joining as joining
use Rattle.rh_otp_system.specs.Calling as calling
use Rattle.rh_otp_system.specs.Delivering as delivering
use Rattle.rh_otp_system.specs.Moves as moves
use Rattle.rh_otp_system.specs.Doing as doing
use Rattle.rh_otp_system.specs.Resting as resting

-- the cells that a system began with
abbrev base : SystemView → List Cell
base s = s.nodes.base

-- the second system began with the cells of the first
abbrev Kept : SystemView → SystemView → Type 0
Kept s t = base t ≡ base s

either : (b : Bool) (x y s : SystemView) → Kept s x → Kept s y → Kept s (cond b x y)
either true x y s p q = p
either false x y s p q = q

-- ---- Sending

kept_observed : (e : Event) (s : SystemView) → Kept s (observed e s)
kept_observed (event.Started a n kind) s = refl
kept_observed e s = refl

kept_told : (e : Event) (s : SystemView) → Kept s (told e s)
unfolding told
kept_told e s = kept_observed e s

kept_after : (time : ℕ) (to : Process) (m : Message) (s : SystemView) → Kept s (after time to m s)
unfolding after
kept_after time to m s = either (time == 0) _ _ s refl (either (nat_lt 4294967295 time) _ _ s refl (either (nat_lt (s.clock + time) (2 ^ 64)) _ _ s refl refl))

-- ---- Connecting

kept_up : (n other : Node) (s : SystemView) → Kept s (connecting.tell_up n other s)
kept_up n other s = either (connecting.waits_in (node_at s n).phase) _ _ s refl refl

kept_link : (one two : Node) (s : SystemView) → Kept s (connecting.link one two s)
kept_link one two s = kept_up two one _ ∙ kept_up one two _

kept_slow_links : (more : List Link) (s : SystemView) → Kept s (connecting.with_slow_links more s)
kept_slow_links [] s = refl
kept_slow_links (l ∷ more) s = kept_slow_links more _

kept_connect : (one two : Node) (s : SystemView) → Kept s (connecting.connect one two s)
unfolding connecting.connect
kept_connect one two s = either (links.are_linked one two s.links) _ _ s refl (kept_slow_links (links.to_connect one two s.links) _ ∙ kept_link one two s)

kept_reach : (n other : Node) (s : SystemView) → Kept s (connecting.reach n other s)
kept_reach n other s = either (n.0 == other.0) _ _ s refl (kept_connect n other s)

kept_sent_reached : (n to : Node) (m : Message) (s : SystemView) → Kept s (connecting.send_reached n to m s)
kept_sent_reached n to m s = either (has_dist_at s to) _ _ s refl refl

kept_to_dist : (n to : Node) (m : Message) (s : SystemView) → Kept s (connecting.send_to_dist n to m s)
kept_to_dist n to m s = either (is_alive_at s to) _ _ s (kept_sent_reached n to m _ ∙ kept_reach n to s) refl

kept_monitor : (n other : Node) (s : SystemView) → Kept s (connecting.monitor n other s)
kept_monitor n other s = either (is_alive_at s other) _ _ s (kept_reach n other s) refl

-- ---- Outputs

kept_output : (n : Node) (o : Output) (s : SystemView) → Kept s (carried_out n o s)
kept_output n (output.Send e) s = refl
kept_output n (output.Tell e) s = kept_told e s
kept_output n (output.ToDist to m) s = kept_to_dist n to m s
kept_output n (output.Monitor other) s = kept_monitor n other s
kept_output n (output.Free requester owner) s = refl
kept_output n (output.After time m) s = kept_after time _ m s

kept_outputs : (n : Node) (outputs : List Output) (s : SystemView) → Kept s (all_carried_out n outputs s)
kept_outputs n [] s = refl
kept_outputs n (o ∷ outputs) s = kept_outputs n outputs _ ∙ kept_output n o s

-- ---- Working

kept_behind : (n : Node) (pair : LiveView × List Output) (s : SystemView) → Kept s (working.behind n pair s)
kept_behind n pair s = kept_outputs n pair.1 _

kept_prepared : (n : Node) (w : Need) (s : SystemView) → Kept s (working.prepared n w s)
kept_prepared n need.OwnLock s = refl
kept_prepared n (need.Answer other a) s = refl
kept_prepared n w s = refl

kept_introduced : (n : Node) (s : SystemView) → Kept s (working.introduced n s)
kept_introduced n s = kept_behind n (working.introduction n (working.dists_of s (links.linked_with n s.links)) s) s

kept_lock_at : (n : Node) (nodes : List Node) (s : SystemView) → Kept s (working.take_lock_at n nodes s)
kept_lock_at n nodes s = either (is_free Sync nodes s.locks) _ _ s (kept_introduced n (working.with_sync_lock n nodes s)) refl

kept_lock_of : (n : Node) (nodes : Option (List Node)) (s : SystemView) → Kept s (working.take_lock_of n nodes s)
kept_lock_of n None s = refl
kept_lock_of n (Some nodes) s = kept_lock_at n nodes s

kept_lock : (n : Node) (s : SystemView) → Kept s (working.take_lock n s)
unfolding working.take_lock
kept_lock n s = kept_lock_of n (working.lock_nodes n s) s

kept_gone : (n : Node) (s : SystemView) → Kept s (working.gone n s)
unfolding working.gone
kept_gone n s = kept_lock n _

kept_gone_if : (n : Node) (w : Need) (s : SystemView) → Kept s (working.gone_if n w s)
kept_gone_if n need.Lock s = kept_gone n s
kept_gone_if n w s = refl

kept_turn : (n : Node) (has_lock burning : Bool) (s : SystemView) → Kept s (working.behind_turn n has_lock burning s)
kept_turn n has_lock burning s = kept_behind n (working.turn_of n (working.asked_at n has_lock burning s) s) s

kept_handled_for : (n : Node) (w : Need) (told : Bool × Bool) (s : SystemView) → Kept s (working.handled_for n w told s)
kept_handled_for n w told s =
    let ready : SystemView = working.prepared n w s in
    kept_gone_if n w (working.behind_turn n told.0 told.1 ready) ∙ kept_turn n told.0 told.1 ready ∙ kept_prepared n w s

kept_handled : (n : Node) (s : SystemView) → Kept s (working.handled n s)
unfolding working.handled
kept_handled n s = kept_handled_for n (working.need_at s n) (working.asked_for n (working.need_at s n) s) s

kept_work_for : (k : ℕ) (n : Node) (s : SystemView) → Kept s (working.work_for k n s)
kept_work_for zero n s = refl
kept_work_for (suc k) n s = either (working.has_next_at s n) _ _ s (kept_work_for k n _ ∙ kept_handled n s) refl

kept_work : (n : Node) (s : SystemView) → Kept s (working.work n s)
unfolding working.work
kept_work n s = kept_work_for (working.mail_count_at s n) n s

kept_mailed : (n : Node) (m : Message) (s : SystemView) → Kept s (working.mailed n m s)
unfolding working.mailed
kept_mailed n m s = kept_work n _

-- ---- Ending

kept_downs : (count : ℕ) (n gone : Node) (s : SystemView) → Kept s (ending.with_downs count n gone s)
kept_downs count n gone s = refl

kept_down : (gone n : Node) (s : SystemView) → Kept s (ending.down_told gone n s)
unfolding ending.down_told
kept_down gone n s = either (has_dist_at s n && links.are_linked gone n s.links) _ _ s (kept_downs (ending.downs_at n gone s) n gone
    (with_node n (remote.without_monitors gone (node_at s n)) s)) refl

kept_all_downs : (gone : Node) (nodes : List Node) (s : SystemView) → Kept s (ending.downs_told gone nodes s)
kept_all_downs gone [] s = refl
kept_all_downs gone (n ∷ nodes) s = kept_all_downs gone nodes _ ∙ kept_down gone n s

kept_taken_down : (n : Node) (s : SystemView) → Kept s (ending.taken_down n s)
unfolding ending.taken_down
kept_taken_down n s = kept_told (event.Ended n) _

kept_ended : (n : Node) (s : SystemView) → Kept s (ending.ended n s)
unfolding ending.ended
kept_ended n s = kept_all_downs n (ending.taken_down n s).alive (ending.taken_down n s) ∙ kept_taken_down n s

kept_stopped : (n : Node) (s : SystemView) → Kept s (ending.stopped n s)
unfolding ending.stopped
kept_stopped n s = kept_after _ _ _ _ ∙ kept_behind n (terminated_by s.cluster (own_at s n) n (node_at s n)) s

-- ---- Joining

kept_go : (n : Node) (s : SystemView) → Kept s (joining.with_go n s)
kept_go n s = either (has_dist_at s n) _ _ s refl refl

kept_join : (n : Node) (s : SystemView) → Kept s (joining.join n s)
unfolding joining.join
kept_join n s =
    let up : SystemView = joining.joined_at n s in
    kept_go n (told (event.Up n) up) ∙ kept_told (event.Up n) up

kept_go_on : (n : Node) (s : SystemView) → Kept s (joining.go_on n s)
kept_go_on n s = either (kernel.waits (node_at s n)) _ _ s refl (kept_join n s)

kept_seen : (n other : Node) (s : SystemView) → Kept s (joining.has_seen n other s)
unfolding joining.has_seen
kept_seen n other s = kept_go_on n (joining.seen_at n other s)

kept_timed_out : (n : Node) (s : SystemView) → Kept s (joining.timed_out n s)
kept_timed_out n s = either (joining.lacks_mandatory n s) _ _ s (kept_ended n s) (kept_join n s)

kept_kernel_handled : (n : Node) (m : Message) (s : SystemView) → Kept s (joining.kernel_handled n m s)
kept_kernel_handled n message.Timeout s = kept_timed_out n s
kept_kernel_handled n (message.NodeUp other) s = kept_seen n other s
kept_kernel_handled n m s = refl

kept_kernel : (n : Node) (m : Message) (s : SystemView) → Kept s (joining.kernel_received n m s)
kept_kernel n m s = either (is_up_at s n) _ _ s refl (kept_kernel_handled n m s)

kept_failed : (n : Node) (fault : Option Fault) (entry : Option (App × Restart)) (s : SystemView) → Kept s (joining.failed_at n fault entry s)
kept_failed n None entry s = refl
kept_failed n (Some fault) None s = refl
kept_failed n (Some fault) (Some entry) s = kept_told _ s

kept_entry : (n : Node) (entry : Option (App × Restart)) (s : SystemView) → Kept s (joining.start_entry n entry s)
kept_entry n (Some entry) s = refl
kept_entry n None s = either (joining.is_boot_end n s) _ _ s (kept_told _ s) refl

kept_boot_next : (n : Node) (fault : Option Fault) (s : SystemView) → Kept s (joining.boot_next n fault s)
unfolding joining.boot_next
kept_boot_next n fault s =
    let over : SystemView = joining.told_failed n fault s in
    kept_entry n (joining.boot_coming n over) over ∙ kept_failed n fault (joining.boot_entry n s) s

kept_boot : (n : Node) (m : Message) (s : SystemView) → Kept s (joining.boot_received n m s)
kept_boot n (message.Answer outcome) s = kept_boot_next n _ s
kept_boot n m s = refl

-- ---- Calling

kept_stage : (place : ℕ) (w : Stage) (found : Option Call) (s : SystemView) → Kept s (calling.stage_if place w found s)
kept_stage place w None s = refl
kept_stage place w (Some call) s = refl

kept_with_stage : (place : ℕ) (w : Stage) (s : SystemView) → Kept s (calling.with_stage place w s)
kept_with_stage place w s = kept_stage place w (slice_get s.calls place) s

kept_loaded : (place : ℕ) (only_loaded : Bool) (found : Option Call) (s : SystemView) → Kept s (calling.loaded_if place only_loaded found s)
kept_loaded place only_loaded None s = refl
kept_loaded place only_loaded (Some call) s = refl

kept_lock_call : (place : ℕ) (call : Call) (nodes : List Node) (s : SystemView) → Kept s (calling.lock_call place call nodes s)
unfolding calling.lock_call
kept_lock_call place call nodes s =
    let alive : List Node = working.alive_of s nodes in
    either (is_free (Alone (process_of call)) alive s.locks) _ _ s (kept_with_stage place stage.DistAc (calling.with_lock call alive s)) refl

kept_wait_for_lock : (place : ℕ) (call : Call) (nodes : List Node) (s : SystemView) → Kept s (calling.wait_for_lock place call nodes s)
unfolding calling.wait_for_lock
kept_wait_for_lock place call nodes s =
    kept_lock_call place call nodes (calling.with_stage place (stage.Lock nodes) s) ∙ kept_with_stage place (stage.Lock nodes) s

kept_behind_sync : (place : ℕ) (call : Call) (s : SystemView) → Kept s (calling.behind_sync place call s)
unfolding calling.behind_sync
kept_behind_sync place call s =
    either (is_takeover call.ask) _ _ s (kept_with_stage place stage.Nodes s) (kept_wait_for_lock place call (working.around s call.node) s)

kept_go_on_from : (w : Stage) (place : ℕ) (call : Call) (s : SystemView) → Kept s (calling.go_on_from w place call s)
kept_go_on_from stage.Synchronised place call s = kept_behind_sync place call s
kept_go_on_from (stage.Lock nodes) place call s = kept_lock_call place call nodes s
kept_go_on_from w place call s = refl

kept_go_on_with : (place : ℕ) (call : Call) (s : SystemView) → Kept s (calling.go_on_with place call s)
kept_go_on_with place call s = either (calling.can_go_on call s) _ _ s (kept_go_on_from call.stage place call s) refl

kept_go_on_if : (place : ℕ) (found : Option Call) (s : SystemView) → Kept s (calling.go_on_if place found s)
kept_go_on_if place None s = refl
kept_go_on_if place (Some call) s = kept_go_on_with place call s

kept_go_on_call : (place : ℕ) (s : SystemView) → Kept s (calling.go_on_call place s)
unfolding calling.go_on_call
kept_go_on_call place s = kept_go_on_if place (slice_get s.calls place) s

kept_done : (place : ℕ) (call : Call) (o : Outcome) (s : SystemView) → Kept s (calling.done_with place call o s)
kept_done place call o s = kept_told _ _ ∙ kept_with_stage place (stage.Done o) (free (Alone (process_of call)) (process_of call) s)

kept_answered : (place : ℕ) (call : Call) (o : Outcome) (s : SystemView) → Kept s (calling.answered_by place call o s)
kept_answered place call o s =
    let only_loaded : Bool = calling.is_only_loaded o in
    either (calling.is_first call.stage && calling.is_asked_on call.ask o) _ _ s (kept_go_on_call place _
    ∙ kept_with_stage place stage.Synchronised (calling.with_loaded place only_loaded s)
    ∙ kept_loaded place only_loaded (slice_get s.calls place) s) (kept_done place call o s)

kept_nodes_told : (place : ℕ) (call : Call) (nodes : List Node) (s : SystemView) → Kept s (calling.nodes_told place call nodes s)
kept_nodes_told place call nodes s = either (calling.is_for_nodes call.stage) _ _ s (kept_go_on_call place _ ∙ kept_with_stage place (stage.Lock nodes) s) refl

kept_received_by : (place : ℕ) (m : Message) (call : Call) (s : SystemView) → Kept s (calling.received_by place m call s)
kept_received_by place (message.Answer o) call s = kept_answered place call o s
kept_received_by place (message.Nodes nodes) call s = kept_nodes_told place call nodes s
kept_received_by place m call s = refl

kept_received_if : (place : ℕ) (m : Message) (found : Option Call) (s : SystemView) → Kept s (calling.received_if place m found s)
kept_received_if place m None s = refl
kept_received_if place m (Some call) s = kept_received_by place m call s

kept_call_at : (place : Option ℕ) (m : Message) (s : SystemView) → Kept s (calling.call_received_at place m s)
kept_call_at None m s = refl
kept_call_at (Some place) m s = kept_received_if place m (slice_get s.calls place) s

kept_call_received : (number : ℕ) (m : Message) (s : SystemView) → Kept s (calling.call_received number m s)
unfolding calling.call_received
kept_call_received number m s = kept_call_at (calling.call_place number s) m s

-- ---- Delivering

kept_received : (r : Role) (n : Node) (m : Message) (s : SystemView) → Kept s (delivering.received_in r n m s)
kept_received role.Controller n m s = kept_behind n (controlled_by s.cluster (own_at s n) n m (node_at s n)) s
kept_received role.DistAc n m s = kept_mailed n m s
kept_received role.KernelConfig n m s = kept_kernel n m s
kept_received role.Boot n m s = kept_boot n m s
kept_received role.System n m s = kept_ended n s
kept_received (role.Call number) n m s = kept_call_received number m s
kept_received r n m s = refl

kept_arrived : (to : Process) (m : Message) (s : SystemView) → Kept s (delivering.arrived to m s)
kept_arrived to m s = either (lives s to) _ _ s (kept_received to.role to.node m s) refl

kept_arrived_at : (place : ℕ) (found : Option Envelope) (s : SystemView) → Kept s (delivering.arrived_at place found s)
kept_arrived_at place None s = refl
kept_arrived_at place (Some e) s = kept_arrived e.to e.message (record s { messages = remove s.messages place })

kept_delivered : (place : ℕ) (s : SystemView) → Kept s (delivering.delivered place s)
unfolding delivering.delivered
kept_delivered place s =
    kept_arrived_at (first_of_pair s.messages place) (slice_get s.messages (first_of_pair s.messages place)) s

kept_slowed : (what : Slow) (s : SystemView) → Kept s (delivering.slowed what s)
unfolding delivering.slowed
kept_slowed (slow.Connect one two) s = either (is_alive_at s one && is_alive_at s two) _ _ s (kept_connect one two s) refl
kept_slowed (slow.Boot n) s = either (is_alive_at s n) _ _ s (kept_boot_next n None s) refl

-- ---- Moves

kept_slow_if : (place : ℕ) (found : Option Slow) (s : SystemView) → Kept s (moves.slow_done_if place found s)
kept_slow_if place None s = refl
kept_slow_if place (Some what) s = kept_slowed what _

kept_locked : (n : Node) (s : SystemView) → Kept s (moves.locked n s)
kept_locked n s = kept_work n _ ∙ either (moves.can_take_lock n s) _ _ s (kept_lock n s) refl

kept_to_end : (n : Node) (s : SystemView) → Kept s (moves.to_end n s)
kept_to_end n s = either s.ends_soon _ _ s (kept_ended n s) (kept_stopped n s)

kept_made : (next : Move) (s : SystemView) → Kept s (moves.made next s)
unfolding moves.made
kept_made (move.Deliver place) s = kept_delivered place s
kept_made (move.Slow place) s = kept_slow_if place (slice_get s.slow place) s
kept_made (move.Lock n) s = kept_locked n s
kept_made (move.Call place) s = kept_go_on_call place s
kept_made (move.End n) s = kept_to_end n s

kept_moved_by : (go_on : SystemView → SystemView) (next : Option Move) (s : SystemView) → ((t : SystemView) → Kept t (go_on t))
    → Kept s (moves.moved_by go_on next s)
kept_moved_by go_on None s rest = refl
kept_moved_by go_on (Some next) s rest = rest _ ∙ kept_made next s

kept_moved : (most : ℕ) (o : Order) (s : SystemView) → Kept s (moves.moved most o s)
kept_moved zero o s = refl
kept_moved (suc most) o s = kept_moved_by (moves.moved most (next_order o)) (moves.next_move o s) s (kept_moved most (next_order o))

pub kept_settled : (most : ℕ) (o : Order) (s : SystemView) → (moves.settled most o s).nodes.base ≡ s.nodes.base
kept_settled most o s = kept_moved most o (record s { answers = [] })

-- ---- Doing

kept_seen_at_once : (n other : Node) (s : SystemView) → Kept s (doing.seen_at_once n other s)
kept_seen_at_once n other s = either (is_alive_at s other) _ _ s (kept_reach n other s) refl

kept_all_seen : (n : Node) (others : List Node) (s : SystemView) → Kept s (doing.all_seen n others s)
kept_all_seen n [] s = refl
kept_all_seen n (other ∷ others) s = kept_all_seen n others _ ∙ kept_seen_at_once n other s

kept_timeout : (n : Node) (time : Option ℕ) (s : SystemView) → Kept s (doing.with_timeout n time s)
kept_timeout n None s = refl
kept_timeout n (Some time) s = kept_after time _ _ s

kept_waited_for : (n : Node) (time : Option ℕ) (s : SystemView) → Kept s (doing.waited_for n time s)
unfolding doing.waited_for
kept_waited_for n time s =
    let seen : SystemView = doing.all_seen n (node_at s n).mandatory s in
    let all : SystemView = doing.all_seen n (node_at s n).optional seen in
    kept_go_on n (doing.with_timeout n time all) ∙ kept_timeout n time all ∙ kept_all_seen n (node_at s n).optional seen
    ∙ kept_all_seen n (node_at s n).mandatory s

kept_waited : (w : Wait) (n : Node) (s : SystemView) → Kept s (doing.waited w n s)
kept_waited wait.Unset n s = kept_join n s
kept_waited wait.Refused n s = kept_ended n s
kept_waited (wait.After time) n s = kept_waited_for n (Some time) s
kept_waited wait.Forever n s = kept_waited_for n None s

pub kept_booted : (n : Node) (s : SystemView) → (doing.booted n s).nodes.base ≡ s.nodes.base
unfolding doing.booted
kept_booted n s = kept_waited (wait_at s n) n (doing.begun_at n s)

kept_first : (place : ℕ) (call : Call) (s : SystemView) → Kept s (doing.first_done place call s)
kept_first place call s = either (is_takeover call.ask) _ _ s (kept_go_on_call place s) refl

pub kept_called : (a : Ask) (n : Node) (app : App) (s : SystemView) → (doing.called a n app s).nodes.base ≡ s.nodes.base
unfolding doing.called
kept_called a n app s =
    let call : Call = doing.call_of a n app s in
    kept_first (length s.calls) call (doing.with_call call s)

kept_fired : (timers : List Timer) (s : SystemView) → Kept s (doing.all_fired timers s)
kept_fired [] s = refl
kept_fired (t ∷ timers) s = kept_fired timers _

kept_fired_next : (due : ℕ) (s : SystemView) → Kept s (doing.fired_next due s)
unfolding doing.fired_next
kept_fired_next due s = kept_fired (timers.fired s.timers) (record s { clock = due; timers = timers.left s.timers })

kept_passed_by : (go_on : SystemView → SystemView) (most : ℕ) (o : Order) (due : Option ℕ) (s : SystemView)
    → ((t : SystemView) → Kept t (go_on t)) → Kept s (doing.passed_by go_on most o due s)
kept_passed_by go_on most o None s rest = refl
kept_passed_by go_on most o (Some due) s rest =
    either (moves.is_settled_by most o (doing.fired_next due s)) _ _ s (rest _ ∙ kept_settled most o (doing.fired_next due s)
    ∙ kept_fired_next due s) (kept_settled most o (doing.fired_next due s) ∙ kept_fired_next due s)

kept_passed : (times end most : ℕ) (o : Order) (s : SystemView) → Kept s (doing.passed times end most o s)
kept_passed zero end most o s = refl
kept_passed (suc times) end most o s =
    kept_passed_by (doing.passed times end most o) most o (doing.next_until end s) s (kept_passed times end most o)

kept_ticked_behind : (end most : ℕ) (o : Order) (is_quiet : Bool) (s : SystemView) → Kept s (doing.ticked_behind end most o is_quiet s)
kept_ticked_behind end most o true s = kept_passed most end most o s
kept_ticked_behind end most o false s = refl

pub kept_ticked : (end most : ℕ) (o : Order) (s : SystemView) → (doing.ticked end most o s).nodes.base ≡ s.nodes.base
unfolding doing.ticked
kept_ticked end most o s =
    let begun : SystemView = record s { is_ticking = true } in
    kept_ticked_behind end most o (moves.is_settled_by most o begun) (moves.settled most o begun) ∙ kept_settled most o begun

pub kept_crashed : (n : Node) (s : SystemView) → (resting.crashed n s).nodes.base ≡ s.nodes.base
kept_crashed n s = kept_ended n s
