-- What nodes do connects more of them, and takes no connection away, where no node ends.
use Rattle.std.proofs.Common.{◌≡◌, ℕ, zero, suc, Bool, true, false, cond, ◌&&◌, ◌==◌, ◌+◌, ◌^◌, nat_lt, List, [], ◌∷◌, ◌++◌, Option, Some, None, slice_get}
use Rattle.rh_model.specs.declared.node.App.{App}
use Rattle.rh_model.specs.declared.node.Node.{Node}
use Rattle.rh_model.specs.declared.settings.Restart.{Restart}
use Rattle.rh_otp_model.specs.declared.fault.Fault.{Fault}
use Rattle.rh_otp_model.specs.declared.fault.Outcome.{Outcome}
use Rattle.rh_otp_model.specs.declared.message.Message.{Message}
use Rattle.rh_otp_model.specs.declared.message.Message.TheVariants as message
use Rattle.rh_otp_model.specs.declared.output.Event.{Event}
use Rattle.rh_otp_model.specs.declared.output.Event.TheVariants as event
use Rattle.rh_otp_model.specs.declared.output.Output.{Output}
use Rattle.rh_otp_model.specs.declared.output.Output.TheVariants as output
use Rattle.rh_otp_model.specs.declared.output.Requester.TheVariants.{Sync, Alone}
use Rattle.rh_otp_model.specs.declared.process.Process.{Process}
use Rattle.rh_otp_dist.specs.declared.outside.Need.{Need}
use Rattle.rh_otp_dist.specs.declared.outside.Need.TheVariants as need
use Rattle.rh_otp_net.specs.declared.links.Link.{Link}
use Rattle.rh_otp_net.specs.Links as links
use Rattle.rh_otp_net.specs.Locks.{is_free}
use Rattle.rh_otp_node.specs.Kernel as kernel
use Rattle.rh_otp_node.specs.Live.{LiveView}
use Rattle.rh_otp_node.specs.Turns.{terminated_by}
use Rattle.rh_otp_system.specs.declared.calls.Call.{Call}
use Rattle.rh_otp_system.specs.declared.calls.Stage.{Stage}
use Rattle.rh_otp_system.specs.declared.calls.Stage.TheVariants as stage
use Rattle.rh_otp_system.specs.Calls.{process_of, is_takeover}
use Rattle.rh_otp_system.specs.State.{SystemView, node_at, own_at, has_dist_at, is_alive_at}
use Rattle.rh_otp_system.specs.Sending.{observed, told, after}
use Rattle.rh_otp_system.specs.Connecting as connecting
use Rattle.rh_otp_system.specs.Outputs.{free, carried_out, all_carried_out}
use Rattle.rh_otp_system.specs.Working as working
use Rattle.rh_otp_system.specs.Ending as ending
use Rattle.rh_otp_system.specs.Joining as joining
use Rattle.rh_otp_system.specs.Calling as calling
use Rattle.rh_otp_waits.proofs.Linking.{linked_still}

-- whoever is connected in the first of these is in the second
pub record More (old new : List Link) : Type 0 where
  pub linked : (a b : Node) → links.are_linked a b old ≡ true → links.are_linked a b new ≡ true

abbrev pub Grows : SystemView → SystemView → Type 0
Grows s t = More s.links t.links

pub same : {old : List Link} → More old old
same = record { linked = λ a b is. is }

longer : (old more : List Link) → More old (old ++ more)
longer old more = record { linked = λ a b is. linked_still a b old more is }

infixl 5 ◌past◌
pub ◌past◌ : {one two three : List Link} → More two three → More one two → More one three
p past q = record { linked = λ a b is. p.linked a b (q.linked a b is) }

pub either : (b : Bool) (x y s : SystemView) → Grows s x → Grows s y → Grows s (cond b x y)
either true x y s p q = p
either false x y s p q = q

-- ---- Sending

grows_observed : (e : Event) (s : SystemView) → Grows s (observed e s)
grows_observed (event.Started a n kind) s = same
grows_observed e s = same

grows_told : (e : Event) (s : SystemView) → Grows s (told e s)
unfolding told
grows_told e s = grows_observed e s

pub grows_after : (time : ℕ) (to : Process) (m : Message) (s : SystemView) → Grows s (after time to m s)
unfolding after
grows_after time to m s =
    either (time == 0) _ _ s same
    (either (nat_lt 4294967295 time) _ _ s same (either (nat_lt (s.clock + time) (2 ^ 64)) _ _ s same same))

-- ---- Connecting

pub grows_up : (n other : Node) (s : SystemView) → Grows s (connecting.tell_up n other s)
grows_up n other s = either (connecting.waits_in (node_at s n).phase) _ _ s same same

grows_link : (one two : Node) (s : SystemView) → Grows s (connecting.link one two s)
grows_link one two s =
    let added : SystemView = record s { links = s.links ++ links.link one two ∷ [] } in
    grows_up two one (connecting.tell_up one two added) past grows_up one two added past longer s.links (links.link one two ∷ [])

pub grows_slow_links : (more : List Link) (s : SystemView) → Grows s (connecting.with_slow_links more s)
grows_slow_links [] s = same
grows_slow_links (l ∷ more) s = grows_slow_links more _

pub grows_connect : (one two : Node) (s : SystemView) → Grows s (connecting.connect one two s)
unfolding connecting.connect
grows_connect one two s =
    either (links.are_linked one two s.links) _ _ s same
    (grows_slow_links (links.to_connect one two s.links) _ past grows_link one two s)

pub grows_reach : (n other : Node) (s : SystemView) → Grows s (connecting.reach n other s)
grows_reach n other s = either (n.0 == other.0) _ _ s same (grows_connect n other s)

grows_sent_reached : (n to : Node) (m : Message) (s : SystemView) → Grows s (connecting.send_reached n to m s)
grows_sent_reached n to m s = either (has_dist_at s to) _ _ s same same

grows_to_dist : (n to : Node) (m : Message) (s : SystemView) → Grows s (connecting.send_to_dist n to m s)
grows_to_dist n to m s = either (is_alive_at s to) _ _ s (grows_sent_reached n to m _ past grows_reach n to s) same

grows_monitor : (n other : Node) (s : SystemView) → Grows s (connecting.monitor n other s)
grows_monitor n other s = either (is_alive_at s other) _ _ s (grows_reach n other s) same

-- ---- Outputs

grows_output : (n : Node) (o : Output) (s : SystemView) → Grows s (carried_out n o s)
grows_output n (output.Send e) s = same
grows_output n (output.Tell e) s = grows_told e s
grows_output n (output.ToDist to m) s = grows_to_dist n to m s
grows_output n (output.Monitor other) s = grows_monitor n other s
grows_output n (output.Free requester owner) s = same
grows_output n (output.After time m) s = grows_after time _ m s

grows_outputs : (n : Node) (outputs : List Output) (s : SystemView) → Grows s (all_carried_out n outputs s)
grows_outputs n [] s = same
grows_outputs n (o ∷ outputs) s = grows_outputs n outputs _ past grows_output n o s

-- ---- Working

pub grows_behind : (n : Node) (pair : LiveView × List Output) (s : SystemView) → Grows s (working.behind n pair s)
grows_behind n pair s = grows_outputs n pair.1 _

grows_prepared : (n : Node) (w : Need) (s : SystemView) → Grows s (working.prepared n w s)
grows_prepared n need.OwnLock s = same
grows_prepared n (need.Answer other a) s = same
grows_prepared n w s = same

grows_introduced : (n : Node) (s : SystemView) → Grows s (working.introduced n s)
grows_introduced n s = grows_behind n (working.introduction n (working.dists_of s (links.linked_with n s.links)) s) s

grows_lock_at : (n : Node) (nodes : List Node) (s : SystemView) → Grows s (working.take_lock_at n nodes s)
grows_lock_at n nodes s = either (is_free Sync nodes s.locks) _ _ s (grows_introduced n (working.with_sync_lock n nodes s)) same

grows_lock_of : (n : Node) (nodes : Option (List Node)) (s : SystemView) → Grows s (working.take_lock_of n nodes s)
grows_lock_of n None s = same
grows_lock_of n (Some nodes) s = grows_lock_at n nodes s

pub grows_lock : (n : Node) (s : SystemView) → Grows s (working.take_lock n s)
unfolding working.take_lock
grows_lock n s = grows_lock_of n (working.lock_nodes n s) s

grows_gone : (n : Node) (s : SystemView) → Grows s (working.gone n s)
unfolding working.gone
grows_gone n s = grows_lock n _

grows_gone_if : (n : Node) (w : Need) (s : SystemView) → Grows s (working.gone_if n w s)
grows_gone_if n need.Lock s = grows_gone n s
grows_gone_if n w s = same

grows_turn : (n : Node) (has_lock burning : Bool) (s : SystemView) → Grows s (working.behind_turn n has_lock burning s)
grows_turn n has_lock burning s = grows_behind n (working.turn_of n (working.asked_at n has_lock burning s) s) s

grows_handled_for : (n : Node) (w : Need) (told : Bool × Bool) (s : SystemView) → Grows s (working.handled_for n w told s)
grows_handled_for n w told s =
    let ready : SystemView = working.prepared n w s in
    grows_gone_if n w (working.behind_turn n told.0 told.1 ready) past grows_turn n told.0 told.1 ready past grows_prepared n w s

grows_handled : (n : Node) (s : SystemView) → Grows s (working.handled n s)
unfolding working.handled
grows_handled n s = grows_handled_for n (working.need_at s n) (working.asked_for n (working.need_at s n) s) s

grows_work_for : (k : ℕ) (n : Node) (s : SystemView) → Grows s (working.work_for k n s)
grows_work_for zero n s = same
grows_work_for (suc k) n s = either (working.has_next_at s n) _ _ s (grows_work_for k n _ past grows_handled n s) same

pub grows_work : (n : Node) (s : SystemView) → Grows s (working.work n s)
unfolding working.work
grows_work n s = grows_work_for (working.mail_count_at s n) n s

pub grows_mailed : (n : Node) (m : Message) (s : SystemView) → Grows s (working.mailed n m s)
unfolding working.mailed
grows_mailed n m s = grows_work n _

-- ---- Ending, up to the end

pub grows_stopped : (n : Node) (s : SystemView) → Grows s (ending.stopped n s)
unfolding ending.stopped
grows_stopped n s = grows_after _ _ _ _ past grows_behind n (terminated_by s.cluster (own_at s n) n (node_at s n)) s

-- ---- Joining

grows_go : (n : Node) (s : SystemView) → Grows s (joining.with_go n s)
grows_go n s = either (has_dist_at s n) _ _ s same same

pub grows_join : (n : Node) (s : SystemView) → Grows s (joining.join n s)
unfolding joining.join
grows_join n s =
    let up : SystemView = joining.joined_at n s in
    grows_go n (told (event.Up n) up) past grows_told (event.Up n) up

pub grows_go_on : (n : Node) (s : SystemView) → Grows s (joining.go_on n s)
grows_go_on n s = either (kernel.waits (node_at s n)) _ _ s same (grows_join n s)

pub grows_seen : (n other : Node) (s : SystemView) → Grows s (joining.has_seen n other s)
unfolding joining.has_seen
grows_seen n other s = grows_go_on n (joining.seen_at n other s)

grows_failed : (n : Node) (fault : Option Fault) (entry : Option (App × Restart)) (s : SystemView)
    → Grows s (joining.failed_at n fault entry s)
grows_failed n None entry s = same
grows_failed n (Some fault) None s = same
grows_failed n (Some fault) (Some entry) s = grows_told _ s

grows_entry : (n : Node) (entry : Option (App × Restart)) (s : SystemView) → Grows s (joining.start_entry n entry s)
grows_entry n (Some entry) s = same
grows_entry n None s = either (joining.is_boot_end n s) _ _ s (grows_told _ s) same

pub grows_boot_next : (n : Node) (fault : Option Fault) (s : SystemView) → Grows s (joining.boot_next n fault s)
unfolding joining.boot_next
grows_boot_next n fault s =
    let over : SystemView = joining.told_failed n fault s in
    grows_entry n (joining.boot_coming n over) over past grows_failed n fault (joining.boot_entry n s) s

pub grows_boot : (n : Node) (m : Message) (s : SystemView) → Grows s (joining.boot_received n m s)
grows_boot n (message.Answer outcome) s = grows_boot_next n _ s
grows_boot n m s = same

-- ---- Calling

grows_stage : (place : ℕ) (w : Stage) (found : Option Call) (s : SystemView) → Grows s (calling.stage_if place w found s)
grows_stage place w None s = same
grows_stage place w (Some call) s = same

grows_with_stage : (place : ℕ) (w : Stage) (s : SystemView) → Grows s (calling.with_stage place w s)
grows_with_stage place w s = grows_stage place w (slice_get s.calls place) s

grows_loaded : (place : ℕ) (only_loaded : Bool) (found : Option Call) (s : SystemView)
    → Grows s (calling.loaded_if place only_loaded found s)
grows_loaded place only_loaded None s = same
grows_loaded place only_loaded (Some call) s = same

grows_lock_call : (place : ℕ) (call : Call) (nodes : List Node) (s : SystemView) → Grows s (calling.lock_call place call nodes s)
unfolding calling.lock_call
grows_lock_call place call nodes s =
    let alive : List Node = working.alive_of s nodes in
    either (is_free (Alone (process_of call)) alive s.locks) _ _ s
    (grows_with_stage place stage.DistAc (calling.with_lock call alive s)) same

grows_wait_for_lock : (place : ℕ) (call : Call) (nodes : List Node) (s : SystemView) → Grows s (calling.wait_for_lock place call nodes s)
unfolding calling.wait_for_lock
grows_wait_for_lock place call nodes s =
    grows_lock_call place call nodes (calling.with_stage place (stage.Lock nodes) s) past grows_with_stage place (stage.Lock nodes) s

grows_behind_sync : (place : ℕ) (call : Call) (s : SystemView) → Grows s (calling.behind_sync place call s)
unfolding calling.behind_sync
grows_behind_sync place call s =
    either (is_takeover call.ask) _ _ s (grows_with_stage place stage.Nodes s)
    (grows_wait_for_lock place call (working.around s call.node) s)

grows_go_on_from : (w : Stage) (place : ℕ) (call : Call) (s : SystemView) → Grows s (calling.go_on_from w place call s)
grows_go_on_from stage.Synchronised place call s = grows_behind_sync place call s
grows_go_on_from (stage.Lock nodes) place call s = grows_lock_call place call nodes s
grows_go_on_from w place call s = same

grows_go_on_with : (place : ℕ) (call : Call) (s : SystemView) → Grows s (calling.go_on_with place call s)
grows_go_on_with place call s = either (calling.can_go_on call s) _ _ s (grows_go_on_from call.stage place call s) same

grows_go_on_if : (place : ℕ) (found : Option Call) (s : SystemView) → Grows s (calling.go_on_if place found s)
grows_go_on_if place None s = same
grows_go_on_if place (Some call) s = grows_go_on_with place call s

pub grows_go_on_call : (place : ℕ) (s : SystemView) → Grows s (calling.go_on_call place s)
unfolding calling.go_on_call
grows_go_on_call place s = grows_go_on_if place (slice_get s.calls place) s

grows_done : (place : ℕ) (call : Call) (o : Outcome) (s : SystemView) → Grows s (calling.done_with place call o s)
grows_done place call o s = grows_told _ _ past grows_with_stage place (stage.Done o) (free (Alone (process_of call)) (process_of call) s)

grows_answered : (place : ℕ) (call : Call) (o : Outcome) (s : SystemView) → Grows s (calling.answered_by place call o s)
grows_answered place call o s =
    let only_loaded : Bool = calling.is_only_loaded o in
    either (calling.is_first call.stage && calling.is_asked_on call.ask o) _ _ s (grows_go_on_call place _
    past grows_with_stage place stage.Synchronised (calling.with_loaded place only_loaded s)
    past grows_loaded place only_loaded (slice_get s.calls place) s) (grows_done place call o s)

grows_nodes_told : (place : ℕ) (call : Call) (nodes : List Node) (s : SystemView) → Grows s (calling.nodes_told place call nodes s)
grows_nodes_told place call nodes s =
    either (calling.is_for_nodes call.stage) _ _ s
    (grows_go_on_call place _ past grows_with_stage place (stage.Lock nodes) s) same

grows_received_by : (place : ℕ) (m : Message) (call : Call) (s : SystemView) → Grows s (calling.received_by place m call s)
grows_received_by place (message.Answer o) call s = grows_answered place call o s
grows_received_by place (message.Nodes nodes) call s = grows_nodes_told place call nodes s
grows_received_by place m call s = same

grows_received_if : (place : ℕ) (m : Message) (found : Option Call) (s : SystemView) → Grows s (calling.received_if place m found s)
grows_received_if place m None s = same
grows_received_if place m (Some call) s = grows_received_by place m call s

grows_call_at : (place : Option ℕ) (m : Message) (s : SystemView) → Grows s (calling.call_received_at place m s)
grows_call_at None m s = same
grows_call_at (Some place) m s = grows_received_if place m (slice_get s.calls place) s

pub grows_call_received : (number : ℕ) (m : Message) (s : SystemView) → Grows s (calling.call_received number m s)
unfolding calling.call_received
grows_call_received number m s = grows_call_at (calling.call_place number s) m s
