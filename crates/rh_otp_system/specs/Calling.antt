-- The calls of an operator, as they go on (application.erl; dist_ac:permit_application/2, takeover_application/2).
use Rattle.std.specs.Prelude.{ℕ, List, ◌==◌, ◌&&◌, Bool, true, false, Option, Some, None, position, slice_get, slice_set, if◌then◌else◌}
use Rattle.rh_model.specs.declared.node.Node.{Node}
use Rattle.rh_otp_model.specs.declared.fault.Outcome.{Outcome}
use Rattle.rh_otp_model.specs.declared.fault.Outcome.TheVariants as outcome
use Rattle.rh_otp_model.specs.declared.message.Message.{Message}
use Rattle.rh_otp_model.specs.declared.message.Message.TheVariants as message
use Rattle.rh_otp_model.specs.declared.output.Event.TheVariants as event
use Rattle.rh_otp_model.specs.declared.output.Requester.TheVariants.{Alone}
use Rattle.rh_otp_model.specs.declared.process.Role.TheVariants as role
use Rattle.rh_otp_dist.specs.State.{DistView}
use Rattle.rh_otp_net.specs.Locks.{is_free, taken}
use Rattle.rh_otp_system.specs.declared.calls.Ask.{Ask}
use Rattle.rh_otp_system.specs.declared.calls.Call.{Call}
use Rattle.rh_otp_system.specs.declared.calls.Stage.{Stage}
use Rattle.rh_otp_system.specs.declared.calls.Stage.TheVariants as stage
use Rattle.rh_otp_system.specs.Calls.{process_of, second_of, is_takeover, is_permit}
use Rattle.rh_otp_system.specs.State.{SystemView, node_at, lives}
use Rattle.rh_otp_system.specs.Sending.{sent, told}
use Rattle.rh_otp_system.specs.Outputs.{free}
use Rattle.rh_otp_system.specs.Working.{around, alive_of}

-- the place of the call of this number
abbrev pub call_place : ℕ → SystemView → Option ℕ
call_place number s = position (λ (call : Call). call.number == number) s.calls

abbrev pub stage_if : ℕ → Stage → Option Call → SystemView → SystemView
stage_if place w None s = s
stage_if place w (Some call) s = record s { calls = slice_set s.calls place (record call { stage = w }) }

-- the call at this place waits for this now
abbrev pub with_stage : ℕ → Stage → SystemView → SystemView
with_stage place w s = stage_if place w (slice_get s.calls place) s

abbrev pub loaded_if : ℕ → Bool → Option Call → SystemView → SystemView
loaded_if place only_loaded None s = s
loaded_if place only_loaded (Some call) s =
    record s { calls = slice_set s.calls place (record call { only_loaded = only_loaded }) }

-- the controller has said whether the application of the call is started
abbrev pub with_loaded : ℕ → Bool → SystemView → SystemView
with_loaded place only_loaded s = loaded_if place only_loaded (slice_get s.calls place) s

abbrev pub is_synchronised_in : Option DistView → Bool
is_synchronised_in None = false
is_synchronised_in (Some d) = d.is_synchronised

-- has the dist_ac of the node synchronised?
abbrev pub is_synchronised_at : Node → SystemView → Bool
is_synchronised_at n s = is_synchronised_in (node_at s n).dist

-- ---- how a call goes on

abbrev pub can_go_on_from : Stage → Call → SystemView → Bool
can_go_on_from stage.Synchronised call s = is_synchronised_at call.node s
can_go_on_from (stage.Lock nodes) call s = is_free (Alone (process_of call)) (alive_of s nodes) s.locks
can_go_on_from w call s = false

-- can it go on by itself? Its dist_ac has synchronised (dist_ac:wait_for_sync_dacs/0), or the lock is free (global:trans/3).
abbrev pub can_go_on : Call → SystemView → Bool
can_go_on call s = if lives s (process_of call) then can_go_on_from call.stage call s else false

-- it asks its dist_ac, with the lock
abbrev pub sent_second : ℕ → Call → SystemView → SystemView
sent_second place call s =
    sent (process_of call) (record (process_of call) { role = role.DistAc }) (second_of call) (with_stage place stage.DistAc s)

abbrev pub with_lock : Call → List Node → SystemView → SystemView
with_lock call nodes s = record s { locks = taken (Alone (process_of call)) (process_of call) nodes s.locks }

-- global:trans/3: it takes the lock at these nodes, those that are alive, if it is free, and asks
unfoldable pub lock_call : ℕ → Call → List Node → SystemView → SystemView
lock_call place call nodes s =
    if is_free (Alone (process_of call)) (alive_of s nodes) s.locks then sent_second place call (with_lock call (alive_of s nodes) s)
    else with_lock call (alive_of s nodes) s

-- a takeover asks for the nodes of the application (dist_ac:get_nodes/1)
abbrev pub ask_nodes : ℕ → Call → SystemView → SystemView
ask_nodes place call s =
    sent (process_of call) (record (process_of call) { role = role.DistAc }) (message.GetNodes call.app (process_of call))
    (with_stage place stage.Nodes s)

-- it asks for the lock at these nodes
unfoldable pub wait_for_lock : ℕ → Call → List Node → SystemView → SystemView
wait_for_lock place call nodes s = lock_call place call nodes (with_stage place (stage.Lock nodes) s)

-- dist_ac:wait_for_sync_dacs/0 is over
unfoldable pub behind_sync : ℕ → Call → SystemView → SystemView
behind_sync place call s =
    if is_takeover call.ask then ask_nodes place call s else wait_for_lock place call (around s call.node) s

abbrev pub go_on_from : Stage → ℕ → Call → SystemView → SystemView
go_on_from stage.Synchronised place call s = behind_sync place call s
go_on_from (stage.Lock nodes) place call s = lock_call place call nodes s
go_on_from w place call s = s

-- it goes on, if it can
abbrev pub go_on_with : ℕ → Call → SystemView → SystemView
go_on_with place call s = if can_go_on call s then go_on_from call.stage place call s else s

abbrev pub go_on_if : ℕ → Option Call → SystemView → SystemView
go_on_if place None s = s
go_on_if place (Some call) s = go_on_with place call s

-- the call at this place goes on, if it can
unfoldable pub go_on_call : ℕ → SystemView → SystemView
go_on_call place s = go_on_if place (slice_get s.calls place) s

-- ---- what a call receives

-- does an answer of the controller send the call on to dist_ac? Then it says whether the application is started.
abbrev pub is_known : Outcome → Bool
is_known outcome.IsStarted = true
is_known outcome.IsOnlyLoaded = true
is_known o = false

abbrev pub is_only_loaded : Outcome → Bool
is_only_loaded outcome.IsOnlyLoaded = true
is_only_loaded o = false

abbrev pub is_asked_on : Ask → Outcome → Bool
is_asked_on a o = is_permit a && is_known o

abbrev pub is_first : Stage → Bool
is_first stage.Controller = true
is_first w = false

abbrev pub is_for_nodes : Stage → Bool
is_for_nodes stage.Nodes = true
is_for_nodes w = false

-- it was answered, and its lock is free
abbrev pub done_with : ℕ → Call → Outcome → SystemView → SystemView
done_with place call o s =
    told (event.Answered call.number) (with_stage place (stage.Done o) (free (Alone (process_of call)) (process_of call) s))

-- an answer of the controller or of dist_ac
abbrev pub answered_by : ℕ → Call → Outcome → SystemView → SystemView
answered_by place call o s =
    if is_first call.stage && is_asked_on call.ask o
    then go_on_call place (with_stage place stage.Synchronised (with_loaded place (is_only_loaded o) s))
    else done_with place call o s

-- the nodes of its application: it asks for the lock there
abbrev pub nodes_told : ℕ → Call → List Node → SystemView → SystemView
nodes_told place call nodes s =
    if is_for_nodes call.stage then go_on_call place (with_stage place (stage.Lock nodes) s) else s

abbrev pub received_by : ℕ → Message → Call → SystemView → SystemView
received_by place (message.Answer o) call s = answered_by place call o s
received_by place (message.Nodes nodes) call s = nodes_told place call nodes s
received_by place m call s = s

abbrev pub received_if : ℕ → Message → Option Call → SystemView → SystemView
received_if place m None s = s
received_if place m (Some call) s = received_by place m call s

-- the call at this place receives a message
abbrev pub received_at : ℕ → Message → SystemView → SystemView
received_at place m s = received_if place m (slice_get s.calls place) s

abbrev pub call_received_at : Option ℕ → Message → SystemView → SystemView
call_received_at None m s = s
call_received_at (Some place) m s = received_at place m s

-- the call of this number receives a message
unfoldable pub call_received : ℕ → Message → SystemView → SystemView
call_received number m s = call_received_at (call_place number s) m s
