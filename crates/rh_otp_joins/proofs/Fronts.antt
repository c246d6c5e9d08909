-- What stands in front of all that is slow is nothing to what messages bring about, nor to what is slow behind it.
use Rattle.std.proofs.Common.{◌≡◌, ℕ, zero, suc, Bool, true, false, ◌==◌, ◌&&◌, ◌+◌, ◌++◌, ◌^◌, cond, nat_lt, List, [], ◌∷◌, Option, Some, None, slice_get, refl, ap, ◌∙◌}
use Rattle.rh_model.specs.declared.node.App.{App}
use Rattle.rh_model.specs.declared.node.Node.{Node}
use Rattle.rh_model.specs.declared.settings.Restart.{Restart}
use Rattle.rh_otp_model.specs.declared.fault.Fault.{Fault}
use Rattle.rh_otp_model.specs.declared.fault.Outcome.{Outcome}
use Rattle.rh_otp_model.specs.declared.message.Message.{Message}
use Rattle.rh_otp_model.specs.declared.message.Message.TheVariants as message
use Rattle.rh_otp_model.specs.declared.output.Envelope.{Envelope}
use Rattle.rh_otp_model.specs.declared.output.Event.{Event}
use Rattle.rh_otp_model.specs.declared.output.Event.TheVariants as event
use Rattle.rh_otp_model.specs.declared.output.Output.{Output}
use Rattle.rh_otp_model.specs.declared.output.Output.TheVariants as output
use Rattle.rh_otp_model.specs.declared.output.Requester.TheVariants.{Sync, Alone}
use Rattle.rh_otp_model.specs.declared.process.Process.{Process}
use Rattle.rh_otp_model.specs.declared.process.Role.{Role}
use Rattle.rh_otp_model.specs.declared.process.Role.TheVariants as role
use Rattle.rh_otp_dist.specs.declared.outside.Need.{Need}
use Rattle.rh_otp_dist.specs.declared.outside.Need.TheVariants as need
use Rattle.rh_otp_net.specs.Links as links
use Rattle.rh_otp_net.specs.Locks.{is_free}
use Rattle.rh_otp_node.specs.Kernel as kernel
use Rattle.rh_otp_node.specs.Live.{LiveView}
use Rattle.rh_otp_node.specs.Turns.{controlled_by}
use Rattle.rh_otp_system.specs.declared.calls.Call.{Call}
use Rattle.rh_otp_system.specs.declared.calls.Stage.{Stage}
use Rattle.rh_otp_system.specs.declared.calls.Stage.TheVariants as stage
use Rattle.rh_otp_system.specs.declared.slow.Slow.{Slow}
use Rattle.rh_otp_system.specs.Calls.{process_of, second_of, is_takeover}
use Rattle.rh_otp_system.specs.State.{SystemView, node_at, with_node, own_at, has_dist_at, is_alive_at, process_in}
use Rattle.rh_otp_system.specs.Sending.{sent, observed, told, after, with_event, with_timer}
use Rattle.rh_otp_system.specs.Connecting as connecting
use Rattle.rh_otp_system.specs.Outputs.{free, carried_out, all_carried_out}
use Rattle.rh_otp_system.specs.Working as working
use Rattle.rh_otp_system.specs.Joining as joining
use Rattle.rh_otp_system.specs.Calling as calling
use Rattle.std.specs.List.{remove}
use Rattle.std.proofs.lemmas.List.{append_assoc}
use Rattle.rh_otp_net.specs.declared.links.Link.{Link}
use Rattle.rh_otp_net.specs.Queue.{first_of_pair}
use Rattle.rh_otp_system.specs.declared.moves.Move.TheVariants as move
use Rattle.rh_otp_system.specs.declared.slow.Slow.TheVariants as slow
use Rattle.rh_otp_system.specs.State.{live_at, is_up_at, lives}
use Rattle.rh_otp_system.specs.Delivering as delivering
use Rattle.rh_otp_system.specs.Ending as ending
use Rattle.rh_otp_system.specs.Moves as moves_of
use Rattle.rh_otp_laws.specs.Turns.{arriving}

-- these stand in front of all that is slow
abbrev pub front : List Slow → SystemView → SystemView
front more s = record s { slow = more ++ s.slow }

pick : (more : List Slow) (b : Bool) (x y x' y' : SystemView) → x ≡ front more x' → y ≡ front more y' → cond b x y ≡ front more (cond b x' y')
pick more true x y x' y' p q = p
pick more false x y x' y' p q = q

-- ---- Sending

observes : (c : List Slow) (e : Event) (s : SystemView) → observed e (front c s) ≡ front c (observed e s)
observes c (event.Started a m kind) s = refl
observes c e s = refl

tells : (c : List Slow) (e : Event) (s : SystemView) → told e (front c s) ≡ front c (told e s)
unfolding told
tells c e s = ap (with_event e) (observes c e s)

sets : (c : List Slow) (time : ℕ) (to : Process) (m : Message) (s : SystemView) → after time to m (front c s) ≡ front c (after time to m s)
unfolding after
sets c time to m s =
    pick c (time == 0) _ _ _ _ refl
    (pick c (nat_lt 4294967295 time) _ _ _ _ refl (pick c (nat_lt (s.clock + time) (2 ^ 64)) (with_timer (s.clock + time) to m (front c s)) _ (with_timer (s.clock + time) to m s) _ refl refl))

-- ---- Connecting

tells_up : (c : List Slow) (one two : Node) (s : SystemView) → connecting.tell_up one two (front c s) ≡ front c (connecting.tell_up one two s)
tells_up c one two s =
    pick c (connecting.waits_in (node_at s one).phase) (connecting.with_up one two (front c s)) (front c s) (connecting.with_up one two s) s refl refl

slows_one : (c : List Slow) (what : Slow) (s : SystemView) → connecting.with_slow what (front c s) ≡ front c (connecting.with_slow what s)
slows_one c what s = λ i. record s { slow = append_assoc c s.slow (what ∷ []) i }

slow_links : (c : List Slow) (more : List Link) (s : SystemView)
    → connecting.with_slow_links more (front c s) ≡ front c (connecting.with_slow_links more s)
slow_links c [] s = refl
slow_links c (l ∷ more) s =
    ap (connecting.with_slow_links more) (slows_one c (slow.Connect l.0 l.1) s) ∙ slow_links c more (connecting.with_slow (slow.Connect l.0 l.1) s)

links_two : (c : List Slow) (one two : Node) (s : SystemView) → connecting.link one two (front c s) ≡ front c (connecting.link one two s)
links_two c one two s =
    let q : SystemView = record s { links = s.links ++ links.link one two ∷ [] } in
    ap (connecting.tell_up two one) (tells_up c one two q) ∙ tells_up c two one (connecting.tell_up one two q)

connects : (c : List Slow) (one two : Node) (s : SystemView) → connecting.connect one two (front c s) ≡ front c (connecting.connect one two s)
unfolding connecting.connect
connects c one two s =
    let more : List Link = links.to_connect one two s.links in
    pick c (links.are_linked one two s.links) (front c s) (connecting.with_slow_links more (connecting.link one two (front c s))) s
    (connecting.with_slow_links more (connecting.link one two s)) refl
    (ap (connecting.with_slow_links more) (links_two c one two s) ∙ slow_links c more (connecting.link one two s))

reaches : (c : List Slow) (one two : Node) (s : SystemView) → connecting.reach one two (front c s) ≡ front c (connecting.reach one two s)
reaches c one two s =
    pick c (one.0 == two.0) (front c s) (connecting.connect one two (front c s)) s (connecting.connect one two s) refl (connects c one two s)

sends_reached : (c : List Slow) (n to : Node) (m : Message) (s : SystemView)
    → connecting.send_reached n to m (front c s) ≡ front c (connecting.send_reached n to m s)
sends_reached c n to m s =
    pick c (has_dist_at s to) (sent (process_in s n role.DistAc) (process_in s to role.DistAc) m (front c s)) (front c s)
    (sent (process_in s n role.DistAc) (process_in s to role.DistAc) m s) s refl refl

sends_to_dist : (c : List Slow) (n to : Node) (m : Message) (s : SystemView)
    → connecting.send_to_dist n to m (front c s) ≡ front c (connecting.send_to_dist n to m s)
sends_to_dist c n to m s =
    pick c (is_alive_at s to) (connecting.send_reached n to m (connecting.reach n to (front c s))) (front c s)
    (connecting.send_reached n to m (connecting.reach n to s)) s
    (ap (connecting.send_reached n to m) (reaches c n to s) ∙ sends_reached c n to m (connecting.reach n to s)) refl

monitors : (c : List Slow) (n other : Node) (s : SystemView) → connecting.monitor n other (front c s) ≡ front c (connecting.monitor n other s)
monitors c n other s =
    pick c (is_alive_at s other) (connecting.with_monitor n other (connecting.reach n other (front c s)))
    (sent (process_in s other role.DistAc) (process_in s n role.DistAc) (message.NodeDown other) (front c s))
    (connecting.with_monitor n other (connecting.reach n other s))
    (sent (process_in s other role.DistAc) (process_in s n role.DistAc) (message.NodeDown other) s)
    (ap (connecting.with_monitor n other) (reaches c n other s)) refl

carries_out : (c : List Slow) (n : Node) (o : Output) (s : SystemView) → carried_out n o (front c s) ≡ front c (carried_out n o s)
carries_out c n (output.Send e) s = refl
carries_out c n (output.Tell e) s = tells c e s
carries_out c n (output.ToDist to m) s = sends_to_dist c n to m s
carries_out c n (output.Monitor other) s = monitors c n other s
carries_out c n (output.Free requester owner) s = refl
carries_out c n (output.After time m) s = sets c time (process_in s n role.DistAc) m s

carries_all_out : (c : List Slow) (n : Node) (outputs : List Output) (s : SystemView)
    → all_carried_out n outputs (front c s) ≡ front c (all_carried_out n outputs s)
carries_all_out c n [] s = refl
carries_all_out c n (o ∷ outputs) s = ap (all_carried_out n outputs) (carries_out c n o s) ∙ carries_all_out c n outputs (carried_out n o s)

-- ---- Working

acts : (c : List Slow) (n : Node) (pair : LiveView × List Output) (s : SystemView) → working.behind n pair (front c s) ≡ front c (working.behind n pair s)
acts c n pair s = carries_all_out c n pair.1 (with_node n pair.0 s)

prepares : (c : List Slow) (n : Node) (w : Need) (s : SystemView) → working.prepared n w (front c s) ≡ front c (working.prepared n w s)
prepares c n need.OwnLock s = refl
prepares c n (need.Answer other a) s = refl
prepares c n w s = refl

asks : (c : List Slow) (n : Node) (w : Need) (s : SystemView) → working.asked_for n w (front c s) ≡ working.asked_for n w s
asks c n need.OwnLock s = refl
asks c n (need.Answer other a) s = refl
asks c n w s = refl

introduces : (c : List Slow) (n : Node) (s : SystemView) → working.introduced n (front c s) ≡ front c (working.introduced n s)
introduces c n s = acts c n (working.introduction n (working.dists_of s (links.linked_with n s.links)) s) s

takes_lock_at : (c : List Slow) (n : Node) (nodes : List Node) (s : SystemView)
    → working.take_lock_at n nodes (front c s) ≡ front c (working.take_lock_at n nodes s)
takes_lock_at c n nodes s =
    pick c (is_free Sync nodes s.locks) (working.introduced n (working.with_sync_lock n nodes (front c s)))
    (working.with_sync_lock n nodes (front c s)) (working.introduced n (working.with_sync_lock n nodes s)) (working.with_sync_lock n nodes s)
    (introduces c n (working.with_sync_lock n nodes s)) refl

takes_lock_of : (c : List Slow) (n : Node) (nodes : Option (List Node)) (s : SystemView)
    → working.take_lock_of n nodes (front c s) ≡ front c (working.take_lock_of n nodes s)
takes_lock_of c n None s = refl
takes_lock_of c n (Some nodes) s = takes_lock_at c n nodes s

takes_lock : (c : List Slow) (n : Node) (s : SystemView) → working.take_lock n (front c s) ≡ front c (working.take_lock n s)
unfolding working.take_lock
takes_lock c n s = takes_lock_of c n (working.lock_nodes n s) s

goes : (c : List Slow) (n : Node) (s : SystemView) → working.gone n (front c s) ≡ front c (working.gone n s)
unfolding working.gone
goes c n s = takes_lock c n (working.waiting_at n (working.around s n) s)

goes_if : (c : List Slow) (n : Node) (w : Need) (s : SystemView) → working.gone_if n w (front c s) ≡ front c (working.gone_if n w s)
goes_if c n need.Lock s = goes c n s
goes_if c n w s = refl

turns : (c : List Slow) (n : Node) (has_lock burning : Bool) (s : SystemView)
    → working.behind_turn n has_lock burning (front c s) ≡ front c (working.behind_turn n has_lock burning s)
turns c n has_lock burning s = acts c n (working.turn_of n (working.asked_at n has_lock burning s) s) s

handles_for : (c : List Slow) (n : Node) (w : Need) (told : Bool × Bool) (s : SystemView)
    → working.handled_for n w told (front c s) ≡ front c (working.handled_for n w told s)
handles_for c n w told s =
    let ready : SystemView = working.prepared n w s in
    ap (λ (x : SystemView). working.gone_if n w (working.behind_turn n told.0 told.1 x)) (prepares c n w s)
    ∙ ap (working.gone_if n w) (turns c n told.0 told.1 ready)
    ∙ goes_if c n w (working.behind_turn n told.0 told.1 ready)

handles : (c : List Slow) (n : Node) (s : SystemView) → working.handled n (front c s) ≡ front c (working.handled n s)
unfolding working.handled
handles c n s =
    ap (λ (told : Bool × Bool). working.handled_for n (working.need_at s n) told (front c s)) (asks c n (working.need_at s n) s)
    ∙ handles_for c n (working.need_at s n) (working.asked_for n (working.need_at s n) s) s

works_for : (c : List Slow) (k : ℕ) (n : Node) (s : SystemView) → working.work_for k n (front c s) ≡ front c (working.work_for k n s)
works_for c zero n s = refl
works_for c (suc k) n s =
    pick c (working.has_next_at s n) (working.work_for k n (working.handled n (front c s))) (front c s)
    (working.work_for k n (working.handled n s)) s
    (ap (working.work_for k n) (handles c n s) ∙ works_for c k n (working.handled n s)) refl

works : (c : List Slow) (n : Node) (s : SystemView) → working.work n (front c s) ≡ front c (working.work n s)
unfolding working.work
works c n s = works_for c (working.mail_count_at s n) n s

gets_mail : (c : List Slow) (n : Node) (m : Message) (s : SystemView) → working.mailed n m (front c s) ≡ front c (working.mailed n m s)
unfolding working.mailed
gets_mail c n m s = works c n (working.with_mail n m s)

-- ---- Ending

tells_down : (c : List Slow) (n m : Node) (s : SystemView) → ending.down_told n m (front c s) ≡ front c (ending.down_told n m s)
unfolding ending.down_told
tells_down c n m s =
    pick c (has_dist_at s m && links.are_linked n m s.links) (ending.told_down n m (front c s)) (front c s) (ending.told_down n m s) s refl refl

tells_downs : (c : List Slow) (n : Node) (nodes : List Node) (s : SystemView)
    → ending.downs_told n nodes (front c s) ≡ front c (ending.downs_told n nodes s)
tells_downs c n [] s = refl
tells_downs c n (m ∷ nodes) s = ap (ending.downs_told n nodes) (tells_down c n m s) ∙ tells_downs c n nodes (ending.down_told n m s)

falls : (c : List Slow) (n : Node) (s : SystemView) → ending.taken_down n (front c s) ≡ front c (ending.taken_down n s)
unfolding ending.taken_down told
falls c n s = refl

ends : (c : List Slow) (n : Node) (s : SystemView) → ending.ended n (front c s) ≡ front c (ending.ended n s)
unfolding ending.ended
ends c n s =
    let gone : SystemView = ending.taken_down n s in
    ap (λ (x : SystemView). ending.unlinked n (ending.downs_told n x.alive x)) (falls c n s)
    ∙ ap (ending.unlinked n) (tells_downs c n gone.alive gone)

-- ---- Joining

joins : (c : List Slow) (n : Node) (s : SystemView) → joining.join n (front c s) ≡ front c (joining.join n s)
unfolding joining.join
joins c n s =
    let up : SystemView = told (event.Up n) (joining.joined_at n s) in
    ap (λ (x : SystemView). joining.with_boot n (joining.with_go n x)) (tells c (event.Up n) (joining.joined_at n s))
    ∙ ap (joining.with_boot n) (pick c (has_dist_at up n)
    (sent (process_in up n role.KernelConfig) (process_in up n role.DistAc) message.Go (front c up)) (front c up)
    (sent (process_in up n role.KernelConfig) (process_in up n role.DistAc) message.Go up) up refl refl)
    ∙ slows_one c (slow.Boot n) (joining.with_go n up)

goes_on : (c : List Slow) (n : Node) (s : SystemView) → joining.go_on n (front c s) ≡ front c (joining.go_on n s)
goes_on c n s = pick c (kernel.waits (node_at s n)) (front c s) (joining.join n (front c s)) s (joining.join n s) refl (joins c n s)

sees : (c : List Slow) (n other : Node) (s : SystemView) → joining.has_seen n other (front c s) ≡ front c (joining.has_seen n other s)
unfolding joining.has_seen
sees c n other s = goes_on c n (joining.seen_at n other s)

kernel_handles : (c : List Slow) (n : Node) (m : Message) (s : SystemView)
    → joining.kernel_handled n m (front c s) ≡ front c (joining.kernel_handled n m s)
kernel_handles c n message.Timeout s =
    pick c (joining.lacks_mandatory n s) (ending.ended n (front c s)) (joining.join n (front c s)) (ending.ended n s) (joining.join n s)
    (ends c n s) (joins c n s)
kernel_handles c n (message.NodeUp other) s = sees c n other s
kernel_handles c n m s = refl

tells_failed : (c : List Slow) (n : Node) (fault : Option Fault) (entry : Option (App × Restart)) (s : SystemView)
    → joining.failed_at n fault entry (front c s) ≡ front c (joining.failed_at n fault entry s)
tells_failed c n None entry s = refl
tells_failed c n (Some fault) None s = refl
tells_failed c n (Some fault) (Some entry) s = tells c (event.Failed entry.0 n fault) s

same_end : (c : List Slow) (n : Node) (v : Option LiveView) (s : SystemView) → joining.is_end_of n v (front c s) ≡ joining.is_end_of n v s
same_end c n None s = refl
same_end c n (Some v) s = refl

starts : (c : List Slow) (n : Node) (entry : Option (App × Restart)) (s : SystemView)
    → joining.start_entry n entry (front c s) ≡ front c (joining.start_entry n entry s)
starts c n (Some entry) s = refl
starts c n None s =
    ap (λ (b : Bool). cond b (told (event.Booted n) (front c s)) (front c s)) (same_end c n (live_at s n) s)
    ∙ pick c (joining.is_boot_end n s) (told (event.Booted n) (front c s)) (front c s) (told (event.Booted n) s) s (tells c (event.Booted n) s) refl

boots_on : (c : List Slow) (n : Node) (fault : Option Fault) (s : SystemView)
    → joining.boot_next n fault (front c s) ≡ front c (joining.boot_next n fault s)
unfolding joining.boot_next
boots_on c n fault s =
    let over : SystemView = joining.told_failed n fault s in
    ap (λ (x : SystemView). joining.counted n (joining.start_next n x)) (tells_failed c n fault (joining.boot_entry n s) s)
    ∙ ap (joining.counted n) (starts c n (joining.boot_coming n over) over)

boot_receives : (c : List Slow) (n : Node) (m : Message) (s : SystemView)
    → joining.boot_received n m (front c s) ≡ front c (joining.boot_received n m s)
boot_receives c n (message.Answer outcome) s = boots_on c n (joining.fault_in outcome) s
boot_receives c n m s = refl

-- ---- Calling

stages : (c : List Slow) (place : ℕ) (w : Stage) (found : Option Call) (s : SystemView)
    → calling.stage_if place w found (front c s) ≡ front c (calling.stage_if place w found s)
stages c place w None s = refl
stages c place w (Some call) s = refl

staged : (c : List Slow) (place : ℕ) (w : Stage) (s : SystemView) → calling.with_stage place w (front c s) ≡ front c (calling.with_stage place w s)
staged c place w s = stages c place w (slice_get s.calls place) s

loads : (c : List Slow) (place : ℕ) (only_loaded : Bool) (found : Option Call) (s : SystemView)
    → calling.loaded_if place only_loaded found (front c s) ≡ front c (calling.loaded_if place only_loaded found s)
loads c place only_loaded None s = refl
loads c place only_loaded (Some call) s = refl

sends_second : (c : List Slow) (place : ℕ) (call : Call) (s : SystemView)
    → calling.sent_second place call (front c s) ≡ front c (calling.sent_second place call s)
sends_second c place call s =
    ap (sent (process_of call) (record (process_of call) { role = role.DistAc }) (second_of call)) (staged c place stage.DistAc s)

locks_call : (c : List Slow) (place : ℕ) (call : Call) (nodes : List Node) (s : SystemView)
    → calling.lock_call place call nodes (front c s) ≡ front c (calling.lock_call place call nodes s)
unfolding calling.lock_call
locks_call c place call nodes s =
    let alive : List Node = working.alive_of s nodes in
    pick c (is_free (Alone (process_of call)) alive s.locks) (calling.sent_second place call (calling.with_lock call alive (front c s)))
    (calling.with_lock call alive (front c s)) (calling.sent_second place call (calling.with_lock call alive s)) (calling.with_lock call alive s)
    (sends_second c place call (calling.with_lock call alive s)) refl

waits_for_lock : (c : List Slow) (place : ℕ) (call : Call) (nodes : List Node) (s : SystemView)
    → calling.wait_for_lock place call nodes (front c s) ≡ front c (calling.wait_for_lock place call nodes s)
unfolding calling.wait_for_lock
waits_for_lock c place call nodes s =
    ap (calling.lock_call place call nodes) (staged c place (stage.Lock nodes) s)
    ∙ locks_call c place call nodes (calling.with_stage place (stage.Lock nodes) s)

asks_nodes : (c : List Slow) (place : ℕ) (call : Call) (s : SystemView)
    → calling.ask_nodes place call (front c s) ≡ front c (calling.ask_nodes place call s)
asks_nodes c place call s =
    ap (sent (process_of call) (record (process_of call) { role = role.DistAc }) (message.GetNodes call.app (process_of call)))
    (staged c place stage.Nodes s)

behind_sync : (c : List Slow) (place : ℕ) (call : Call) (s : SystemView)
    → calling.behind_sync place call (front c s) ≡ front c (calling.behind_sync place call s)
unfolding calling.behind_sync
behind_sync c place call s =
    let nodes : List Node = working.around s call.node in
    pick c (is_takeover call.ask) (calling.ask_nodes place call (front c s)) (calling.wait_for_lock place call nodes (front c s))
    (calling.ask_nodes place call s) (calling.wait_for_lock place call nodes s) (asks_nodes c place call s)
    (waits_for_lock c place call nodes s)

goes_on_from : (c : List Slow) (w : Stage) (place : ℕ) (call : Call) (s : SystemView)
    → calling.go_on_from w place call (front c s) ≡ front c (calling.go_on_from w place call s)
goes_on_from c stage.Synchronised place call s = behind_sync c place call s
goes_on_from c (stage.Lock nodes) place call s = locks_call c place call nodes s
goes_on_from c w place call s = refl

can_from : (c : List Slow) (w : Stage) (call : Call) (s : SystemView) → calling.can_go_on_from w call (front c s) ≡ calling.can_go_on_from w call s
can_from c stage.Synchronised call s = refl
can_from c (stage.Lock nodes) call s = refl
can_from c w call s = refl

can : (c : List Slow) (call : Call) (s : SystemView) → calling.can_go_on call (front c s) ≡ calling.can_go_on call s
can c call s = ap (λ (b : Bool). cond (lives s (process_of call)) b false) (can_from c call.stage call s)

goes_on_if : (c : List Slow) (place : ℕ) (found : Option Call) (s : SystemView)
    → calling.go_on_if place found (front c s) ≡ front c (calling.go_on_if place found s)
goes_on_if c place None s = refl
goes_on_if c place (Some call) s =
    ap (λ (b : Bool). cond b (calling.go_on_from call.stage place call (front c s)) (front c s)) (can c call s)
    ∙ pick c (calling.can_go_on call s) (calling.go_on_from call.stage place call (front c s)) (front c s)
    (calling.go_on_from call.stage place call s) s (goes_on_from c call.stage place call s) refl

call_goes_on : (c : List Slow) (place : ℕ) (s : SystemView) → calling.go_on_call place (front c s) ≡ front c (calling.go_on_call place s)
unfolding calling.go_on_call
call_goes_on c place s = goes_on_if c place (slice_get s.calls place) s

is_answered : (c : List Slow) (place : ℕ) (call : Call) (o : Outcome) (s : SystemView)
    → calling.done_with place call o (front c s) ≡ front c (calling.done_with place call o s)
is_answered c place call o s =
    let q : SystemView = free (Alone (process_of call)) (process_of call) s in
    ap (told (event.Answered call.number)) (staged c place (stage.Done o) q)
    ∙ tells c (event.Answered call.number) (calling.with_stage place (stage.Done o) q)

answers : (c : List Slow) (place : ℕ) (call : Call) (o : Outcome) (s : SystemView)
    → calling.answered_by place call o (front c s) ≡ front c (calling.answered_by place call o s)
answers c place call o s =
    let only : Bool = calling.is_only_loaded o in
    let loaded : SystemView = calling.with_loaded place only s in
    pick c (calling.is_first call.stage && calling.is_asked_on call.ask o)
    (calling.go_on_call place (calling.with_stage place stage.Synchronised (calling.with_loaded place only (front c s))))
    (calling.done_with place call o (front c s)) (calling.go_on_call place (calling.with_stage place stage.Synchronised loaded))
    (calling.done_with place call o s)
    (ap (λ (x : SystemView). calling.go_on_call place (calling.with_stage place stage.Synchronised x)) (loads c place only (slice_get s.calls place) s)
    ∙ ap (calling.go_on_call place) (staged c place stage.Synchronised loaded)
    ∙ call_goes_on c place (calling.with_stage place stage.Synchronised loaded))
    (is_answered c place call o s)

is_told_nodes : (c : List Slow) (place : ℕ) (call : Call) (nodes : List Node) (s : SystemView)
    → calling.nodes_told place call nodes (front c s) ≡ front c (calling.nodes_told place call nodes s)
is_told_nodes c place call nodes s =
    pick c (calling.is_for_nodes call.stage) (calling.go_on_call place (calling.with_stage place (stage.Lock nodes) (front c s))) (front c s)
    (calling.go_on_call place (calling.with_stage place (stage.Lock nodes) s)) s
    (ap (calling.go_on_call place) (staged c place (stage.Lock nodes) s)
    ∙ call_goes_on c place (calling.with_stage place (stage.Lock nodes) s)) refl

receives_by : (c : List Slow) (place : ℕ) (m : Message) (call : Call) (s : SystemView)
    → calling.received_by place m call (front c s) ≡ front c (calling.received_by place m call s)
receives_by c place (message.Answer o) call s = answers c place call o s
receives_by c place (message.Nodes nodes) call s = is_told_nodes c place call nodes s
receives_by c place m call s = refl

receives_if : (c : List Slow) (place : ℕ) (m : Message) (found : Option Call) (s : SystemView)
    → calling.received_if place m found (front c s) ≡ front c (calling.received_if place m found s)
receives_if c place m None s = refl
receives_if c place m (Some call) s = receives_by c place m call s

receives_at : (c : List Slow) (place : Option ℕ) (m : Message) (s : SystemView)
    → calling.call_received_at place m (front c s) ≡ front c (calling.call_received_at place m s)
receives_at c None m s = refl
receives_at c (Some place) m s = receives_if c place m (slice_get s.calls place) s

call_receives : (c : List Slow) (number : ℕ) (m : Message) (s : SystemView)
    → calling.call_received number m (front c s) ≡ front c (calling.call_received number m s)
unfolding calling.call_received
call_receives c number m s = receives_at c (calling.call_place number s) m s

-- ---- Delivering

receives : (c : List Slow) (r : Role) (n : Node) (m : Message) (s : SystemView)
    → delivering.received_in r n m (front c s) ≡ front c (delivering.received_in r n m s)
receives c role.Controller n m s = acts c n (controlled_by s.cluster (own_at s n) n m (node_at s n)) s
receives c role.DistAc n m s = gets_mail c n m s
receives c role.KernelConfig n m s =
    pick c (is_up_at s n) (front c s) (joining.kernel_handled n m (front c s)) s (joining.kernel_handled n m s) refl (kernel_handles c n m s)
receives c role.Boot n m s = boot_receives c n m s
receives c role.System n m s = ends c n s
receives c (role.Call number) n m s = call_receives c number m s
receives c r n m s = refl

arrives_at : (c : List Slow) (place : ℕ) (found : Option Envelope) (s : SystemView)
    → delivering.arrived_at place found (front c s) ≡ front c (delivering.arrived_at place found s)
arrives_at c place None s = refl
arrives_at c place (Some e) s =
    let q : SystemView = record s { messages = remove s.messages place } in
    pick c (lives s e.to) (delivering.received e.to e.message (front c q)) (front c q) (delivering.received e.to e.message q) q
    (receives c e.to.role e.to.node e.message q) refl

pub slows : (c : List Slow) (what : Slow) (s : SystemView) → delivering.slowed what (front c s) ≡ front c (delivering.slowed what s)
unfolding delivering.slowed
slows c (slow.Connect one two) s =
    pick c (is_alive_at s one && is_alive_at s two) (connecting.connect one two (front c s)) (front c s) (connecting.connect one two s) s
    (connects c one two s) refl
slows c (slow.Boot m) s =
    pick c (is_alive_at s m) (joining.boot_next m None (front c s)) (front c s) (joining.boot_next m None s) s (boots_on c m None s) refl

pub delivers : (c : List Slow) (place : ℕ) (s : SystemView)
    → moves_of.made (move.Deliver place) (front c s) ≡ front c (moves_of.made (move.Deliver place) s)
unfolding moves_of.made delivering.delivered
delivers c place s = arrives_at c (first_of_pair s.messages place) (arriving place s) s
