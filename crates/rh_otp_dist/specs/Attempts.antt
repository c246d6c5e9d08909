-- The end of a start: what the controller is told, and what comes behind it (dist_ac, start_appl/3).
use Rattle.std.specs.Prelude.{List, ◌∷◌, ◌==◌, not, filter, Bool, true, false, Option, Some, None, if◌then◌else◌}
use Rattle.std.specs.List.{list_any}
use Rattle.rh_model.specs.declared.node.App.{App}
use Rattle.rh_model.specs.declared.node.Node.{Node}
use Rattle.rh_otp_model.specs.declared.fault.Outcome.TheVariants.{Done}
use Rattle.rh_otp_model.specs.declared.message.Change.{Change}
use Rattle.rh_otp_model.specs.declared.message.Change.TheVariants as change
use Rattle.rh_otp_model.specs.declared.message.Message.{Message}
use Rattle.rh_otp_model.specs.declared.message.Message.TheVariants as message
use Rattle.rh_otp_model.specs.declared.message.Reply.{Reply}
use Rattle.rh_otp_model.specs.declared.message.Reply.TheVariants as reply
use Rattle.rh_otp_model.specs.declared.output.Requester.TheVariants.{Alone}
use Rattle.rh_otp_model.specs.Rows.{keydelete}
use Rattle.rh_otp_dist.specs.declared.attempt.AskedBy.{AskedBy}
use Rattle.rh_otp_dist.specs.declared.attempt.AskedBy.TheVariants as asked
use Rattle.rh_otp_dist.specs.declared.state.Stand.TheVariants.{Idle}
use Rattle.rh_otp_dist.specs.declared.state.Standing.{Standing}
use Rattle.rh_otp_dist.specs.declared.state.Standing.TheVariants.{Distributed}
use Rattle.rh_otp_dist.specs.declared.state.Told.{Told}
use Rattle.rh_otp_dist.specs.declared.verdict.Verdict.{Verdict}
use Rattle.rh_otp_dist.specs.declared.verdict.Verdict.TheVariants as verdict
use Rattle.rh_otp_dist.specs.State.{TurnView, DistView, with_state, with_standing}
use Rattle.rh_otp_dist.specs.Views.{AttemptView, PermitCallView}
use Rattle.rh_otp_dist.specs.Sending.{me, to_controller, answer, free_lock}

-- a verdict as a reply; a failover is never one
abbrev pub reply_of : Verdict → Reply
reply_of verdict.StartIt = reply.StartIt
reply_of verdict.NotStarted = reply.NotStarted
reply_of (verdict.Started n) = reply.Started n
reply_of (verdict.Takeover n) = reply.Takeover n
reply_of (verdict.Failover n) = reply.StartIt

-- a verdict as a change
abbrev pub change_of : Verdict → Change
change_of verdict.StartIt = change.StartIt
change_of verdict.NotStarted = change.StopIt
change_of (verdict.Started n) = change.Started n
change_of (verdict.Takeover n) = change.Takeover n None
change_of (verdict.Failover n) = change.Failover n

-- what the controller is told, which waits for a reply or doesn't
abbrev pub message_of : AskedBy → App → Verdict → Message
message_of asked.Controller a v = message.Reply a (reply_of v)
message_of asked.Nobody a v = message.Change a (change_of v)

-- ac_start_it/2, ac_started/3, ac_takeover/4, ac_failover/3, ac_not_started/2
abbrev pub tell_controller : AskedBy → App → Verdict → TurnView → TurnView
tell_controller asked_by a v t = to_controller (message_of asked_by a v) t

-- is the application one of these?
abbrev pub has_app : App → List App → Bool
has_app a apps = list_any (λ (b : App). b.0 == a.0) apps

-- with an application that is started here
abbrev pub add_started : App → List App → List App
add_started a started = if has_app a started then started else a ∷ started

-- without the weights that were told of an application
abbrev pub without_told : App → List Told → List Told
without_told a told = filter (λ (one : Told). not (one.app.0 == a.0)) told

-- the state behind a start: how the application stands, and what was kept of the start no more
abbrev pub settled : App → Standing → DistView → DistView
settled a standing d = record (with_standing a standing d) {
  stand = Idle;
  tmp_locals = without_told a d.tmp_locals;
  tmp_weights = keydelete a d.tmp_weights;
  remote_started = keydelete a d.remote_started;
  started = add_started a d.started;
}

-- the state as it was before a call of permit
abbrev pub restored : App → PermitCallView → DistView → DistView
restored a before d = record (with_standing a before.standing d) {
  remote_started = before.remote_started;
  started = before.started;
  tmp_locals = before.tmp_locals;
  tmp_weights = before.tmp_weights;
}

-- permit/6, behind the start: where it is to start here, the call waits for it, and has its lock no more; else the state is the one
-- before
abbrev pub permitted_then : App → Bool → PermitCallView → TurnView → TurnView
permitted_then a true before t =
    let freed : TurnView = free_lock (Alone before.caller) before.caller t in
    with_state (record freed.state { t_reqs = (a, before.caller) ∷ freed.state.t_reqs }) freed
permitted_then a false before t = answer before.caller Done (with_state (restored a before t.state) t)

abbrev pub permitted_by : App → Bool → Option PermitCallView → TurnView → TurnView
permitted_by a is_waiting None t = t
permitted_by a is_waiting (Some before) t = permitted_then a is_waiting before t

abbrev pub behind : AskedBy → AttemptView → Bool → TurnView → TurnView
behind asked.Controller attempt is_waiting t = free_lock (Alone (me t)) (me t) t
behind asked.Nobody attempt is_waiting t = permitted_by attempt.app is_waiting attempt.permit t

-- what the one who asked for the start does behind it: a request of the controller had the lock of the node
abbrev pub behind_start : AttemptView → Bool → TurnView → TurnView
behind_start attempt is_waiting t = behind attempt.asked_by attempt is_waiting (with_state (record t.state { stand = Idle }) t)

-- the end of start_appl/3
unfoldable pub finish : AttemptView → Standing → Bool → TurnView → TurnView
finish attempt standing is_waiting t = behind_start attempt is_waiting (with_state (settled attempt.app standing t.state) t)

-- start_distributed/6: it runs at another node
unfoldable pub runs_elsewhere : AttemptView → Node → TurnView → TurnView
runs_elsewhere attempt n t = finish attempt (Distributed n) false (tell_controller attempt.asked_by attempt.app (verdict.Started n) t)
