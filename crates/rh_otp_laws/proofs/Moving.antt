-- Each move is a turn of one node, or of none: then of any.
use Rattle.std.proofs.Common.{◌≡◌, ℕ, Bool, true, false, cond, ◌&&◌, List, [], ◌∷◌, Option, Some, None, slice_get, unwrap_or, refl, sym, ◌∙◌}
use Rattle.std.specs.List.{remove}
use Rattle.std.specs.Option.{option_map, option_and_then}
use Rattle.std.proofs.lemmas.Bool.{and_parts}
use Rattle.rh_model.specs.ClusterView.{is_in}
use Rattle.rh_model.specs.declared.node.App.{App}
use Rattle.rh_model.specs.declared.node.Node.{Node}
use Rattle.rh_model.specs.declared.settings.Restart.{Restart}
use Rattle.rh_otp_model.specs.declared.fault.Fault.{Fault}
use Rattle.rh_otp_model.specs.declared.fault.Outcome.{Outcome}
use Rattle.rh_otp_model.specs.declared.message.Message.{Message}
use Rattle.rh_otp_model.specs.declared.message.Message.TheVariants as message
use Rattle.rh_otp_model.specs.declared.output.Envelope.{Envelope}
use Rattle.rh_otp_model.specs.declared.output.Event.TheVariants as event
use Rattle.rh_otp_model.specs.declared.output.Requester.TheVariants.{Alone}
use Rattle.rh_otp_model.specs.declared.process.Process.{Process}
use Rattle.rh_otp_model.specs.declared.process.Role.{Role}
use Rattle.rh_otp_model.specs.declared.process.Role.TheVariants as role
use Rattle.rh_otp_net.specs.Links as links
use Rattle.rh_otp_net.specs.Locks.{is_free}
use Rattle.rh_otp_net.specs.Queue.{first_of_pair}
use Rattle.rh_otp_node.specs.Kernel as kernel
use Rattle.rh_otp_node.specs.Live.{LiveView}
use Rattle.rh_otp_node.specs.Turns.{controlled_by, terminated_by}
use Rattle.rh_otp_system.specs.declared.calls.Call.{Call}
use Rattle.rh_otp_system.specs.declared.calls.Stage.{Stage}
use Rattle.rh_otp_system.specs.declared.calls.Stage.TheVariants as stage
use Rattle.rh_otp_system.specs.declared.moves.Move.{Move}
use Rattle.rh_otp_system.specs.declared.moves.Move.TheVariants as move
use Rattle.rh_otp_system.specs.declared.slow.Slow.{Slow}
use Rattle.rh_otp_system.specs.declared.slow.Slow.TheVariants as slow
use Rattle.rh_otp_system.specs.Calls.{process_of, is_takeover}
use Rattle.rh_otp_system.specs.State.{SystemView, node_at, own_at, has_dist_at, is_alive_at, is_up_at, lives}
use Rattle.rh_otp_system.specs.Outputs.{free}
use Rattle.rh_otp_system.specs.Sending.{told}
use Rattle.rh_otp_system.specs.Working as working
use Rattle.rh_otp_system.specs.Ending as ending
use Rattle.rh_otp_system.specs.Joining as joining
use Rattle.rh_otp_system.specs.Calling as calling
use Rattle.rh_otp_system.specs.Delivering as delivering
use Rattle.rh_otp_system.specs.Moves as moves
use Rattle.rh_otp_laws.specs.Turns.{arriving, node_of, node_of_slow}
use Rattle.rh_otp_laws.proofs.Turn.{LivesOn, Turn, nothing, wrote, put, linked, slowed, took, freed, called, fell, unmonitored, ◌then◌, either, either_if}
use Rattle.rh_otp_laws.proofs.Nodes.{alive_written}
use Rattle.rh_otp_laws.proofs.Working.{tells, sets, connects, controlled_on, terminated_on, unparked_on, acts, takes_lock, works, gets_mail}

-- ---- Ending

tells_down : (n m : Node) (s : SystemView) → Turn n s (ending.down_told n m s)
unfolding ending.down_told
tells_down n m s = either n (has_dist_at s m && links.are_linked n m s.links) _ _ s (unmonitored s m then put _ _) (nothing s)

pub tells_downs : (n : Node) (nodes : List Node) (s : SystemView) → Turn n s (ending.downs_told n nodes s)
tells_downs n [] s = nothing s
tells_downs n (m ∷ nodes) s = tells_down n m s then tells_downs n nodes _

pub ends : (n : Node) (s : SystemView) → Turn n s (ending.ended n s)
unfolding ending.ended
ends n s = fell s then tells_downs n (ending.taken_down n s).alive (ending.taken_down n s) then linked _ _

stops : (n : Node) (s : SystemView) → Turn n s (ending.stopped n s)
unfolding ending.stopped
stops n s =
    acts n (terminated_by s.cluster (own_at s n) n (node_at s n)) s (terminated_on s.cluster (own_at s n) n (node_at s n))
    then sets n 1500 _ message.Ends _

-- ---- Joining

goes : (n : Node) (s : SystemView) → Turn n s (joining.with_go n s)
goes n s = either n (has_dist_at s n) _ _ s (put s _) (nothing s)

pub joins : (n : Node) (s : SystemView) → is_alive_at s n ≡ true → Turn n s (joining.join n s)
unfolding joining.join
joins n s alive =
    let up : SystemView = joining.joined_at n s in
    wrote s (kernel.joined (node_at s n)) (refl, sym alive) then tells n (event.Up n) up then goes n (told (event.Up n) up) then slowed _ _

pub goes_on : (n : Node) (s : SystemView) → is_alive_at s n ≡ true → Turn n s (joining.go_on n s)
goes_on n s alive = either n (kernel.waits (node_at s n)) _ _ s (nothing s) (joins n s alive)

lives_on_if : (b : Bool) (v x y : LiveView) → LivesOn v x → LivesOn v y → LivesOn v (cond b x y)
lives_on_if true v x y p q = p
lives_on_if false v x y p q = q

pub seen_on : (other : Node) (v : LiveView) → LivesOn v (kernel.seen other v)
seen_on other v = lives_on_if (is_in other v.mandatory) v _ _ (refl, refl) (refl, refl)

sees : (n other : Node) (s : SystemView) → is_alive_at s n ≡ true → Turn n s (joining.has_seen n other s)
unfolding joining.has_seen
sees n other s alive =
    let w : LiveView = kernel.seen other (node_at s n) in
    let on : LivesOn (node_at s n) w = seen_on other (node_at s n) in
    wrote s w on then goes_on n (joining.seen_at n other s) (alive_written s n w alive (on.1 ∙ alive))

times_out : (n : Node) (s : SystemView) → is_alive_at s n ≡ true → Turn n s (joining.timed_out n s)
times_out n s alive = either n (joining.lacks_mandatory n s) _ _ s (ends n s) (joins n s alive)

kernel_handles : (n : Node) (m : Message) (s : SystemView) → is_alive_at s n ≡ true → Turn n s (joining.kernel_handled n m s)
kernel_handles n message.Timeout s alive = times_out n s alive
kernel_handles n (message.NodeUp other) s alive = sees n other s alive
kernel_handles n m s alive = nothing s

kernel_receives : (n : Node) (m : Message) (s : SystemView) → is_alive_at s n ≡ true → Turn n s (joining.kernel_received n m s)
kernel_receives n m s alive = either n (is_up_at s n) _ _ s (nothing s) (kernel_handles n m s alive)

tells_failed : (n : Node) (fault : Option Fault) (entry : Option (App × Restart)) (s : SystemView)
    → Turn n s (joining.failed_at n fault entry s)
tells_failed n None entry s = nothing s
tells_failed n (Some fault) None s = nothing s
tells_failed n (Some fault) (Some entry) s = tells n _ s

starts : (n : Node) (entry : Option (App × Restart)) (s : SystemView) → Turn n s (joining.start_entry n entry s)
starts n (Some entry) s = put s _
starts n None s = either n (joining.is_boot_end n s) _ _ s (tells n _ s) (nothing s)

boots_on : (n : Node) (fault : Option Fault) (s : SystemView) → Turn n s (joining.boot_next n fault s)
unfolding joining.boot_next
boots_on n fault s =
    let over : SystemView = joining.told_failed n fault s in
    tells_failed n fault (joining.boot_entry n s) s then starts n (joining.boot_coming n over) over then wrote _ _ (refl, refl)

boot_receives : (n : Node) (m : Message) (s : SystemView) → Turn n s (joining.boot_received n m s)
boot_receives n (message.Answer outcome) s = boots_on n _ s
boot_receives n m s = nothing s

-- ---- Calling: no node's turn, so any's

stages : (n : Node) (place : ℕ) (w : Stage) (found : Option Call) (s : SystemView) → Turn n s (calling.stage_if place w found s)
stages n place w None s = nothing s
stages n place w (Some call) s = called s _ s.last_call

staged : (n : Node) (place : ℕ) (w : Stage) (s : SystemView) → Turn n s (calling.with_stage place w s)
staged n place w s = stages n place w (slice_get s.calls place) s

loads : (n : Node) (place : ℕ) (only_loaded : Bool) (found : Option Call) (s : SystemView)
    → Turn n s (calling.loaded_if place only_loaded found s)
loads n place only_loaded None s = nothing s
loads n place only_loaded (Some call) s = called s _ s.last_call

locks_call : (n : Node) (place : ℕ) (call : Call) (nodes : List Node) (s : SystemView) → Turn n s (calling.lock_call place call nodes s)
unfolding calling.lock_call
locks_call n place call nodes s =
    let alive : List Node = working.alive_of s nodes in
    either n (is_free (Alone (process_of call)) alive s.locks) _ _ s
    (took s _ _ _ then staged n place stage.DistAc (calling.with_lock call alive s) then put _ _) (took s _ _ _)

waits_for_lock : (n : Node) (place : ℕ) (call : Call) (nodes : List Node) (s : SystemView)
    → Turn n s (calling.wait_for_lock place call nodes s)
unfolding calling.wait_for_lock
waits_for_lock n place call nodes s = staged n place (stage.Lock nodes) s then locks_call n place call nodes _

behind_sync : (n : Node) (place : ℕ) (call : Call) (s : SystemView) → Turn n s (calling.behind_sync place call s)
unfolding calling.behind_sync
behind_sync n place call s =
    either n (is_takeover call.ask) _ _ s (staged n place stage.Nodes s then put _ _)
    (waits_for_lock n place call (working.around s call.node) s)

goes_on_from : (n : Node) (w : Stage) (place : ℕ) (call : Call) (s : SystemView) → Turn n s (calling.go_on_from w place call s)
goes_on_from n stage.Synchronised place call s = behind_sync n place call s
goes_on_from n (stage.Lock nodes) place call s = locks_call n place call nodes s
goes_on_from n w place call s = nothing s

goes_on_with : (n : Node) (place : ℕ) (call : Call) (s : SystemView) → Turn n s (calling.go_on_with place call s)
goes_on_with n place call s = either n (calling.can_go_on call s) _ _ s (goes_on_from n call.stage place call s) (nothing s)

goes_on_if : (n : Node) (place : ℕ) (found : Option Call) (s : SystemView) → Turn n s (calling.go_on_if place found s)
goes_on_if n place None s = nothing s
goes_on_if n place (Some call) s = goes_on_with n place call s

pub call_goes_on : (n : Node) (place : ℕ) (s : SystemView) → Turn n s (calling.go_on_call place s)
unfolding calling.go_on_call
call_goes_on n place s = goes_on_if n place (slice_get s.calls place) s

is_answered : (n : Node) (place : ℕ) (call : Call) (o : Outcome) (s : SystemView) → Turn n s (calling.done_with place call o s)
is_answered n place call o s =
    freed s _ _ then staged n place (stage.Done o) (free (Alone (process_of call)) (process_of call) s) then tells n _ _

answers : (n : Node) (place : ℕ) (call : Call) (o : Outcome) (s : SystemView) → Turn n s (calling.answered_by place call o s)
answers n place call o s =
    let only_loaded : Bool = calling.is_only_loaded o in
    either n (calling.is_first call.stage && calling.is_asked_on call.ask o) _ _ s
    (loads n place only_loaded (slice_get s.calls place) s
    then staged n place stage.Synchronised (calling.with_loaded place only_loaded s) then call_goes_on n place _)
    (is_answered n place call o s)

is_told_nodes : (n : Node) (place : ℕ) (call : Call) (nodes : List Node) (s : SystemView) → Turn n s (calling.nodes_told place call nodes s)
is_told_nodes n place call nodes s =
    either n (calling.is_for_nodes call.stage) _ _ s (staged n place (stage.Lock nodes) s then call_goes_on n place _) (nothing s)

receives_by : (n : Node) (place : ℕ) (m : Message) (call : Call) (s : SystemView) → Turn n s (calling.received_by place m call s)
receives_by n place (message.Answer o) call s = answers n place call o s
receives_by n place (message.Nodes nodes) call s = is_told_nodes n place call nodes s
receives_by n place m call s = nothing s

receives_if : (n : Node) (place : ℕ) (m : Message) (found : Option Call) (s : SystemView) → Turn n s (calling.received_if place m found s)
receives_if n place m None s = nothing s
receives_if n place m (Some call) s = receives_by n place m call s

receives_at : (n : Node) (place : Option ℕ) (m : Message) (s : SystemView) → Turn n s (calling.call_received_at place m s)
receives_at n None m s = nothing s
receives_at n (Some place) m s = receives_if n place m (slice_get s.calls place) s

call_receives : (n : Node) (number : ℕ) (m : Message) (s : SystemView) → Turn n s (calling.call_received number m s)
unfolding calling.call_received
call_receives n number m s = receives_at n (calling.call_place number s) m s

-- ---- Delivering

receives : (r : Role) (n : Node) (m : Message) (s : SystemView) → is_alive_at s n ≡ true → Turn n s (delivering.received_in r n m s)
receives role.Controller n m s alive =
    acts n (controlled_by s.cluster (own_at s n) n m (node_at s n)) s (controlled_on s.cluster (own_at s n) n m (node_at s n))
receives role.DistAc n m s alive = gets_mail n m s
receives role.KernelConfig n m s alive = kernel_receives n m s alive
receives role.Boot n m s alive = boot_receives n m s
receives role.System n m s alive = ends n s
receives (role.Call number) n m s alive = call_receives n number m s
receives r n m s alive = nothing s

pub arrives : (to : Process) (m : Message) (s : SystemView) → Turn to.node s (delivering.arrived to m s)
arrives to m s =
    either_if to.node (lives s to) _ _ s
    (λ there. receives to.role to.node m s (and_parts _ _ there).0) (λ lost. nothing s)

slows : (n : Node) (what : Slow) (s : SystemView) → Turn (unwrap_or (node_of_slow what) n) s (delivering.slowed what s)
unfolding delivering.slowed
slows n (slow.Connect one two) s = either n (is_alive_at s one && is_alive_at s two) _ _ s (connects n one two s) (nothing s)
slows n (slow.Boot m) s = either m (is_alive_at s m) _ _ s (boots_on m None s) (nothing s)

-- ---- Moves

slow_moves : (n : Node) (place : ℕ) (found : Option Slow) (s : SystemView)
    → Turn (unwrap_or (option_and_then node_of_slow found) n) s (moves.slow_done_if place found s)
slow_moves n place None s = nothing s
slow_moves n place (Some what) s = slowed s _ then slows n what _

locks : (n : Node) (s : SystemView) → Turn n s (moves.locked n s)
locks n s =
    either n (moves.can_take_lock n s) _ _ s (takes_lock n s) (wrote s _ (unparked_on (node_at s n))) then works n _

to_end : (n : Node) (s : SystemView) → Turn n s (moves.to_end n s)
to_end n s = either n s.ends_soon _ _ s (ends n s) (stops n s)

abbrev left_behind : ℕ → Option Envelope → List Envelope → List Envelope
left_behind place None messages = messages
left_behind place (Some e) messages = remove messages place

-- what is on its way before the move, without the message that arrives
abbrev pub left_by : Move → SystemView → List Envelope
left_by (move.Deliver place) s = left_behind (first_of_pair s.messages place) (arriving place s) s.messages
left_by m s = s.messages

arrives_at : (n : Node) (place : ℕ) (found : Option Envelope) (s : SystemView)
    → Turn (unwrap_or (option_map (λ (e : Envelope). e.to.node) found) n) (record s { messages = left_behind place found s.messages })
    (delivering.arrived_at place found s)
arrives_at n place None s = nothing s
arrives_at n place (Some e) s = arrives e.to e.message (record s { messages = remove s.messages place })

pub made_by_turn : (n : Node) (next : Move) (s : SystemView)
    → Turn (unwrap_or (node_of next s) n) (record s { messages = left_by next s }) (moves.made next s)
unfolding moves.made delivering.delivered
made_by_turn n (move.Deliver place) s = arrives_at n (first_of_pair s.messages place) (arriving place s) s
made_by_turn n (move.Slow place) s = slow_moves n place (slice_get s.slow place) s
made_by_turn n (move.Lock m) s = locks m s
made_by_turn n (move.Call place) s = call_goes_on n place s
made_by_turn n (move.End m) s = to_end m s
