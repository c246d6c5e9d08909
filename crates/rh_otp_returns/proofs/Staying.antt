-- What nodes do leaves no two of them connected twice, and none with itself, where no node ends.
use Rattle.std.proofs.Common.{◌≡◌, ◌≢◌, refl, sym, ◌∙◌, ℕ, zero, suc, Bool, true, false, cond, ◌&&◌, ◌==◌, ◌+◌, ◌^◌, nat_lt, List, [], ◌∷◌, ◌++◌, Option, Some, None, slice_get}
use Rattle.rh_model.specs.declared.node.App.{App}
use Rattle.rh_model.specs.declared.node.Node.{Node}
use Rattle.rh_model.specs.declared.settings.Restart.{Restart}
use Rattle.rh_otp_model.specs.declared.fault.Fault.{Fault}
use Rattle.rh_otp_model.specs.declared.fault.Outcome.{Outcome}
use Rattle.rh_otp_model.specs.declared.message.Message.{Message}
use Rattle.rh_otp_model.specs.declared.message.Message.TheVariants as message
use Rattle.rh_otp_model.specs.declared.output.Event.{Event}
use Rattle.rh_otp_model.specs.declared.output.Event.TheVariants as event
use Rattle.rh_otp_model.specs.declared.output.Output.{Output}
use Rattle.rh_otp_model.specs.declared.output.Output.TheVariants as output
use Rattle.rh_otp_model.specs.declared.output.Requester.TheVariants.{Sync, Alone}
use Rattle.rh_otp_model.specs.declared.process.Process.{Process}
use Rattle.rh_otp_dist.specs.declared.outside.Need.{Need}
use Rattle.rh_otp_dist.specs.declared.outside.Need.TheVariants as need
use Rattle.rh_otp_net.specs.declared.links.Link.{Link}
use Rattle.rh_otp_net.specs.Links as links
use Rattle.rh_otp_net.specs.Locks.{is_free}
use Rattle.rh_otp_node.specs.Kernel as kernel
use Rattle.rh_otp_node.specs.Live.{LiveView}
use Rattle.rh_otp_node.specs.Turns.{terminated_by}
use Rattle.rh_otp_system.specs.declared.calls.Call.{Call}
use Rattle.rh_otp_system.specs.declared.calls.Stage.{Stage}
use Rattle.rh_otp_system.specs.declared.calls.Stage.TheVariants as stage
use Rattle.rh_otp_system.specs.Calls.{process_of, is_takeover}
use Rattle.rh_otp_system.specs.State.{SystemView, node_at, own_at, has_dist_at, is_alive_at}
use Rattle.rh_otp_system.specs.Sending.{observed, told, after}
use Rattle.rh_otp_system.specs.Connecting as connecting
use Rattle.rh_otp_system.specs.Outputs.{free, carried_out, all_carried_out}
use Rattle.rh_otp_system.specs.Working as working
use Rattle.rh_otp_system.specs.Ending as ending
use Rattle.rh_otp_system.specs.Joining as joining
use Rattle.rh_otp_system.specs.Calling as calling
use Rattle.std.specs.Prelude.{All}
use Rattle.std.proofs.lemmas.Bool.{eq-eqb, false≢true}
use Rattle.std.proofs.lemmas.List.Elements.{All-head, All-tail}
use Rattle.rh_otp_system.specs.declared.slow.Slow.{Slow}
use Rattle.rh_otp_system.specs.declared.slow.Slow.TheVariants as slow
use Rattle.rh_otp_joins.proofs.Seeing.{IsApart}
use Rattle.rh_otp_returns.proofs.Single.{JoinsTwo, AreSingle, linked_too, to_connect_apart, more_slow}

-- connections are single in the second of these if they are in the first
pub record Stay (old : List Link) (old_slow : List Slow) (new : List Link) (new_slow : List Slow) : Type 0 where
  pub single : AreSingle old old_slow → AreSingle new new_slow

abbrev pub Stays : SystemView → SystemView → Type 0
Stays s t = Stay s.links s.slow t.links t.slow

pub same : {old : List Link} {old_slow : List Slow} → Stay old old_slow old old_slow
same = record { single = λ so. so }

joined_too : (s : SystemView) (one two : Node) → one.0 ≢ two.0 → links.are_linked one two s.links ≡ false
    → Stay s.links s.slow (s.links ++ links.link one two ∷ []) s.slow
joined_too s one two apart unlinked = record { single = linked_too one two s.links s.slow apart unlinked }

slower : (s : SystemView) (what : Slow) → JoinsTwo what → Stay s.links s.slow s.links (s.slow ++ what ∷ [])
slower s what two = record { single = more_slow s.links s.slow what two }

infixl 5 ◌past◌
pub ◌past◌ : {one two three : List Link} {first second third : List Slow} → Stay two second three third → Stay one first two second
    → Stay one first three third
p past q = record { single = λ so. p.single (q.single so) }

pub either : (b : Bool) (x y s : SystemView) → Stays s x → Stays s y → Stays s (cond b x y)
either true x y s p q = p
either false x y s p q = q

pub either_if : (b : Bool) (x y s : SystemView) → (b ≡ true → Stays s x) → (b ≡ false → Stays s y) → Stays s (cond b x y)
either_if true x y s p q = p refl
either_if false x y s p q = q refl

-- ---- Sending

stays_observed : (e : Event) (s : SystemView) → Stays s (observed e s)
stays_observed (event.Started a n kind) s = same
stays_observed e s = same

stays_told : (e : Event) (s : SystemView) → Stays s (told e s)
unfolding told
stays_told e s = stays_observed e s

pub stays_after : (time : ℕ) (to : Process) (m : Message) (s : SystemView) → Stays s (after time to m s)
unfolding after
stays_after time to m s =
    either (time == 0) _ _ s same
    (either (nat_lt 4294967295 time) _ _ s same (either (nat_lt (s.clock + time) (2 ^ 64)) _ _ s same same))

-- ---- Connecting

pub stays_up : (n other : Node) (s : SystemView) → Stays s (connecting.tell_up n other s)
stays_up n other s = either (connecting.waits_in (node_at s n).phase) _ _ s same same

stays_link : (one two : Node) (s : SystemView) → one.0 ≢ two.0 → links.are_linked one two s.links ≡ false
    → Stays s (connecting.link one two s)
stays_link one two s apart unlinked =
    let added : SystemView = record s { links = s.links ++ links.link one two ∷ [] } in
    stays_up two one (connecting.tell_up one two added) past stays_up one two added past joined_too s one two apart unlinked

stays_slow_links : (more : List Link) (s : SystemView) → All IsApart more → Stays s (connecting.with_slow_links more s)
stays_slow_links [] s apart = same
stays_slow_links (l ∷ more) s apart =
    stays_slow_links more (connecting.with_slow (slow.Connect l.0 l.1) s) (All-tail IsApart l more apart)
    past slower s (slow.Connect l.0 l.1) (All-head IsApart l more apart)

pub stays_connect : (one two : Node) (s : SystemView) → one.0 ≢ two.0 → Stays s (connecting.connect one two s)
unfolding connecting.connect
stays_connect one two s apart =
    either_if (links.are_linked one two s.links) _ _ s (λ is. same)
    (λ none. stays_slow_links (links.to_connect one two s.links) (connecting.link one two s) (to_connect_apart one two s.links)
    past stays_link one two s apart none)

pub stays_reach : (n other : Node) (s : SystemView) → Stays s (connecting.reach n other s)
stays_reach n other s =
    either_if (n.0 == other.0) _ _ s (λ is. same)
    (λ differs. stays_connect n other s (λ is. false≢true (sym differs ∙ eq-eqb n.0 other.0 is)))

stays_sent_reached : (n to : Node) (m : Message) (s : SystemView) → Stays s (connecting.send_reached n to m s)
stays_sent_reached n to m s = either (has_dist_at s to) _ _ s same same

stays_to_dist : (n to : Node) (m : Message) (s : SystemView) → Stays s (connecting.send_to_dist n to m s)
stays_to_dist n to m s = either (is_alive_at s to) _ _ s (stays_sent_reached n to m _ past stays_reach n to s) same

stays_monitor : (n other : Node) (s : SystemView) → Stays s (connecting.monitor n other s)
stays_monitor n other s = either (is_alive_at s other) _ _ s (stays_reach n other s) same

-- ---- Outputs

stays_output : (n : Node) (o : Output) (s : SystemView) → Stays s (carried_out n o s)
stays_output n (output.Send e) s = same
stays_output n (output.Tell e) s = stays_told e s
stays_output n (output.ToDist to m) s = stays_to_dist n to m s
stays_output n (output.Monitor other) s = stays_monitor n other s
stays_output n (output.Free requester owner) s = same
stays_output n (output.After time m) s = stays_after time _ m s

stays_outputs : (n : Node) (outputs : List Output) (s : SystemView) → Stays s (all_carried_out n outputs s)
stays_outputs n [] s = same
stays_outputs n (o ∷ outputs) s = stays_outputs n outputs _ past stays_output n o s

-- ---- Working

pub stays_behind : (n : Node) (pair : LiveView × List Output) (s : SystemView) → Stays s (working.behind n pair s)
stays_behind n pair s = stays_outputs n pair.1 _

stays_prepared : (n : Node) (w : Need) (s : SystemView) → Stays s (working.prepared n w s)
stays_prepared n need.OwnLock s = same
stays_prepared n (need.Answer other a) s = same
stays_prepared n w s = same

stays_introduced : (n : Node) (s : SystemView) → Stays s (working.introduced n s)
stays_introduced n s = stays_behind n (working.introduction n (working.dists_of s (links.linked_with n s.links)) s) s

stays_lock_at : (n : Node) (nodes : List Node) (s : SystemView) → Stays s (working.take_lock_at n nodes s)
stays_lock_at n nodes s = either (is_free Sync nodes s.locks) _ _ s (stays_introduced n (working.with_sync_lock n nodes s)) same

stays_lock_of : (n : Node) (nodes : Option (List Node)) (s : SystemView) → Stays s (working.take_lock_of n nodes s)
stays_lock_of n None s = same
stays_lock_of n (Some nodes) s = stays_lock_at n nodes s

pub stays_lock : (n : Node) (s : SystemView) → Stays s (working.take_lock n s)
unfolding working.take_lock
stays_lock n s = stays_lock_of n (working.lock_nodes n s) s

stays_gone : (n : Node) (s : SystemView) → Stays s (working.gone n s)
unfolding working.gone
stays_gone n s = stays_lock n _

stays_gone_if : (n : Node) (w : Need) (s : SystemView) → Stays s (working.gone_if n w s)
stays_gone_if n need.Lock s = stays_gone n s
stays_gone_if n w s = same

stays_turn : (n : Node) (has_lock burning : Bool) (s : SystemView) → Stays s (working.behind_turn n has_lock burning s)
stays_turn n has_lock burning s = stays_behind n (working.turn_of n (working.asked_at n has_lock burning s) s) s

stays_handled_for : (n : Node) (w : Need) (told : Bool × Bool) (s : SystemView) → Stays s (working.handled_for n w told s)
stays_handled_for n w told s =
    let ready : SystemView = working.prepared n w s in
    stays_gone_if n w (working.behind_turn n told.0 told.1 ready) past stays_turn n told.0 told.1 ready past stays_prepared n w s

stays_handled : (n : Node) (s : SystemView) → Stays s (working.handled n s)
unfolding working.handled
stays_handled n s = stays_handled_for n (working.need_at s n) (working.asked_for n (working.need_at s n) s) s

stays_work_for : (k : ℕ) (n : Node) (s : SystemView) → Stays s (working.work_for k n s)
stays_work_for zero n s = same
stays_work_for (suc k) n s = either (working.has_next_at s n) _ _ s (stays_work_for k n _ past stays_handled n s) same

pub stays_work : (n : Node) (s : SystemView) → Stays s (working.work n s)
unfolding working.work
stays_work n s = stays_work_for (working.mail_count_at s n) n s

pub stays_mailed : (n : Node) (m : Message) (s : SystemView) → Stays s (working.mailed n m s)
unfolding working.mailed
stays_mailed n m s = stays_work n _

-- ---- Ending, up to the end

pub stays_stopped : (n : Node) (s : SystemView) → Stays s (ending.stopped n s)
unfolding ending.stopped
stays_stopped n s = stays_after _ _ _ _ past stays_behind n (terminated_by s.cluster (own_at s n) n (node_at s n)) s

-- ---- Joining

stays_go : (n : Node) (s : SystemView) → Stays s (joining.with_go n s)
stays_go n s = either (has_dist_at s n) _ _ s same same

pub stays_join : (n : Node) (s : SystemView) → Stays s (joining.join n s)
unfolding joining.join
stays_join n s =
    let up : SystemView = joining.joined_at n s in
    slower (joining.with_go n (told (event.Up n) up)) (slow.Boot n) tt past stays_go n (told (event.Up n) up)
    past stays_told (event.Up n) up

pub stays_go_on : (n : Node) (s : SystemView) → Stays s (joining.go_on n s)
stays_go_on n s = either (kernel.waits (node_at s n)) _ _ s same (stays_join n s)

pub stays_seen : (n other : Node) (s : SystemView) → Stays s (joining.has_seen n other s)
unfolding joining.has_seen
stays_seen n other s = stays_go_on n (joining.seen_at n other s)

stays_failed : (n : Node) (fault : Option Fault) (entry : Option (App × Restart)) (s : SystemView)
    → Stays s (joining.failed_at n fault entry s)
stays_failed n None entry s = same
stays_failed n (Some fault) None s = same
stays_failed n (Some fault) (Some entry) s = stays_told _ s

stays_entry : (n : Node) (entry : Option (App × Restart)) (s : SystemView) → Stays s (joining.start_entry n entry s)
stays_entry n (Some entry) s = same
stays_entry n None s = either (joining.is_boot_end n s) _ _ s (stays_told _ s) same

pub stays_boot_next : (n : Node) (fault : Option Fault) (s : SystemView) → Stays s (joining.boot_next n fault s)
unfolding joining.boot_next
stays_boot_next n fault s =
    let over : SystemView = joining.told_failed n fault s in
    stays_entry n (joining.boot_coming n over) over past stays_failed n fault (joining.boot_entry n s) s

pub stays_boot : (n : Node) (m : Message) (s : SystemView) → Stays s (joining.boot_received n m s)
stays_boot n (message.Answer outcome) s = stays_boot_next n _ s
stays_boot n m s = same

-- ---- Calling

stays_stage : (place : ℕ) (w : Stage) (found : Option Call) (s : SystemView) → Stays s (calling.stage_if place w found s)
stays_stage place w None s = same
stays_stage place w (Some call) s = same

stays_with_stage : (place : ℕ) (w : Stage) (s : SystemView) → Stays s (calling.with_stage place w s)
stays_with_stage place w s = stays_stage place w (slice_get s.calls place) s

stays_loaded : (place : ℕ) (only_loaded : Bool) (found : Option Call) (s : SystemView)
    → Stays s (calling.loaded_if place only_loaded found s)
stays_loaded place only_loaded None s = same
stays_loaded place only_loaded (Some call) s = same

stays_lock_call : (place : ℕ) (call : Call) (nodes : List Node) (s : SystemView) → Stays s (calling.lock_call place call nodes s)
unfolding calling.lock_call
stays_lock_call place call nodes s =
    let alive : List Node = working.alive_of s nodes in
    either (is_free (Alone (process_of call)) alive s.locks) _ _ s
    (stays_with_stage place stage.DistAc (calling.with_lock call alive s)) same

stays_wait_for_lock : (place : ℕ) (call : Call) (nodes : List Node) (s : SystemView) → Stays s (calling.wait_for_lock place call nodes s)
unfolding calling.wait_for_lock
stays_wait_for_lock place call nodes s =
    stays_lock_call place call nodes (calling.with_stage place (stage.Lock nodes) s) past stays_with_stage place (stage.Lock nodes) s

stays_behind_sync : (place : ℕ) (call : Call) (s : SystemView) → Stays s (calling.behind_sync place call s)
unfolding calling.behind_sync
stays_behind_sync place call s =
    either (is_takeover call.ask) _ _ s (stays_with_stage place stage.Nodes s)
    (stays_wait_for_lock place call (working.around s call.node) s)

stays_go_on_from : (w : Stage) (place : ℕ) (call : Call) (s : SystemView) → Stays s (calling.go_on_from w place call s)
stays_go_on_from stage.Synchronised place call s = stays_behind_sync place call s
stays_go_on_from (stage.Lock nodes) place call s = stays_lock_call place call nodes s
stays_go_on_from w place call s = same

stays_go_on_with : (place : ℕ) (call : Call) (s : SystemView) → Stays s (calling.go_on_with place call s)
stays_go_on_with place call s = either (calling.can_go_on call s) _ _ s (stays_go_on_from call.stage place call s) same

stays_go_on_if : (place : ℕ) (found : Option Call) (s : SystemView) → Stays s (calling.go_on_if place found s)
stays_go_on_if place None s = same
stays_go_on_if place (Some call) s = stays_go_on_with place call s

pub stays_go_on_call : (place : ℕ) (s : SystemView) → Stays s (calling.go_on_call place s)
unfolding calling.go_on_call
stays_go_on_call place s = stays_go_on_if place (slice_get s.calls place) s

stays_done : (place : ℕ) (call : Call) (o : Outcome) (s : SystemView) → Stays s (calling.done_with place call o s)
stays_done place call o s = stays_told _ _ past stays_with_stage place (stage.Done o) (free (Alone (process_of call)) (process_of call) s)

stays_answered : (place : ℕ) (call : Call) (o : Outcome) (s : SystemView) → Stays s (calling.answered_by place call o s)
stays_answered place call o s =
    let only_loaded : Bool = calling.is_only_loaded o in
    either (calling.is_first call.stage && calling.is_asked_on call.ask o) _ _ s (stays_go_on_call place _
    past stays_with_stage place stage.Synchronised (calling.with_loaded place only_loaded s)
    past stays_loaded place only_loaded (slice_get s.calls place) s) (stays_done place call o s)

stays_nodes_told : (place : ℕ) (call : Call) (nodes : List Node) (s : SystemView) → Stays s (calling.nodes_told place call nodes s)
stays_nodes_told place call nodes s =
    either (calling.is_for_nodes call.stage) _ _ s
    (stays_go_on_call place _ past stays_with_stage place (stage.Lock nodes) s) same

stays_received_by : (place : ℕ) (m : Message) (call : Call) (s : SystemView) → Stays s (calling.received_by place m call s)
stays_received_by place (message.Answer o) call s = stays_answered place call o s
stays_received_by place (message.Nodes nodes) call s = stays_nodes_told place call nodes s
stays_received_by place m call s = same

stays_received_if : (place : ℕ) (m : Message) (found : Option Call) (s : SystemView) → Stays s (calling.received_if place m found s)
stays_received_if place m None s = same
stays_received_if place m (Some call) s = stays_received_by place m call s

stays_call_at : (place : Option ℕ) (m : Message) (s : SystemView) → Stays s (calling.call_received_at place m s)
stays_call_at None m s = same
stays_call_at (Some place) m s = stays_received_if place m (slice_get s.calls place) s

pub stays_call_received : (number : ℕ) (m : Message) (s : SystemView) → Stays s (calling.call_received number m s)
unfolding calling.call_received
stays_call_received number m s = stays_call_at (calling.call_place number s) m s
