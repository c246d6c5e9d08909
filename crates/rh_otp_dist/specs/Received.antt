-- What a dist_ac does at a message (dist_ac, handle_info/2, handle_call/3, handle_cast/2).
use Rattle.std.specs.Prelude.{ℕ, [], ◌∷◌, ◌++◌, Option, Some, None, position, slice_get, if◌then◌else◌}
use Rattle.std.specs.List.{remove}
use Rattle.rh_model.specs.declared.node.App.{App}
use Rattle.rh_otp_model.specs.declared.message.Message.{Message}
use Rattle.rh_otp_model.specs.declared.message.Message.TheVariants as message
use Rattle.rh_otp_dist.specs.declared.attempt.AskedBy.TheVariants as asked
use Rattle.rh_otp_dist.specs.declared.state.Stand.{Stand}
use Rattle.rh_otp_dist.specs.declared.state.Stand.TheVariants as stand
use Rattle.rh_otp_dist.specs.State.{TurnView, DistView, with_state}
use Rattle.rh_otp_dist.specs.Choosing.{start_appl}
use Rattle.rh_otp_dist.specs.Waiting.{takes, introduced_by, weighed_by, started_there, started_anywhere}
use Rattle.rh_otp_dist.specs.Told.{run, not_run, stopped, new_node, app_started, app_stopped, weight_told, restart, new_permission}
use Rattle.rh_otp_dist.specs.Down.{node_down}
use Rattle.rh_otp_dist.specs.Calls.{take_over, permit, get_nodes}

-- handle_info({ac_start_application_req, ..}): with the lock of its own node, which it asks for once; else it is sent again when the
-- lock is free
abbrev pub start_request : App → TurnView → TurnView
start_request a t =
    if t.has_lock then start_appl a asked.Controller None t
    else with_state (record t.state { parked = t.state.parked ++ a ∷ [] }) t

-- a message that it takes where it waits for any; others have no meaning for it
abbrev pub handled : Message → TurnView → TurnView
handled (message.StartRequest a) t = start_request a t
handled (message.Run a error) t = run a error t
handled (message.NotRun a) t = not_run a t
handled (message.Stopped a) t = stopped a t
handled (message.NewNode n allowed started) t = new_node n allowed started t
handled (message.AppStarted n a error) t = app_started n a error t
handled (message.AppStopped a) t = app_stopped a t
handled (message.Weight a w n) t = weight_told a w n t
handled (message.NodeDown n) t = node_down n t
handled (message.RestartAppl a loss) t = restart a t
handled (message.NewPermission n a allow is_his) t = new_permission n a allow is_his t
handled (message.TakeOver a restart_type caller) t = take_over a restart_type caller t
handled (message.PermitDistributed a allow only_loaded caller) t = permit a allow only_loaded caller t
handled (message.GetNodes a caller) t = get_nodes a caller t
handled m t = t

-- how it goes on where it stood in the middle of something; that its node's wait is over is the system's to go on with
abbrev pub resumed : Stand → Message → TurnView → TurnView
resumed stand.Idle m t = handled m t
resumed stand.ForGo m t = t
resumed (stand.ForLock nodes) m t = t
resumed (stand.ForIntroduction w) m t = introduced_by w w.nodes m t
resumed (stand.ForWeight w) m t = weighed_by w w.nodes m t
resumed (stand.ForStart attempt n) m t = started_there attempt n m t
resumed (stand.ForAnyStart attempt) m t = started_anywhere attempt m t

-- the place in its mailbox of the first message that it takes
abbrev pub next_mail : DistView → Option ℕ
next_mail d = position (takes d.stand) d.mail

-- a message is taken out of its mailbox at this place, and it stands nowhere until it has handled it
abbrev pub taken_out : ℕ → TurnView → TurnView
taken_out place t = with_state (record t.state { mail = remove t.state.mail place; stand = stand.Idle }) t

-- with a message, if there is one
abbrev pub resumed_if : Stand → Option Message → TurnView → TurnView
resumed_if s None t = t
resumed_if s (Some m) t = resumed s m t

-- it handles the message at this place of its mailbox (ours: how the process takes its messages)
unfoldable pub handle_next : ℕ → TurnView → TurnView
handle_next place t = resumed_if t.state.stand (slice_get t.state.mail place) (taken_out place t)
