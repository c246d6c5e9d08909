-- What a dist_ac does at a message is its node's own.
use Rattle.std.proofs.Common.{◌+◌, ◌&&◌, ◌||◌, ◌==◌, ◌++◌, ℕ, not, Bool, true, false, cond, List, [], ◌∷◌, reverse, slice_get, Option, Some, None}
use Rattle.rh_model.specs.declared.node.App.{App}
use Rattle.rh_model.specs.declared.node.Node.{Node}
use Rattle.rh_model.specs.declared.settings.Dep.{Dep}
use Rattle.rh_model.specs.declared.settings.Restart.{Restart}
use Rattle.rh_otp_model.specs.declared.fault.Fault.TheVariants as fault
use Rattle.rh_otp_model.specs.declared.fault.Outcome.TheVariants.{Done, Failed}
use Rattle.rh_otp_model.specs.declared.message.Change.TheVariants as change
use Rattle.rh_otp_model.specs.declared.message.Message.{Message}
use Rattle.rh_otp_model.specs.declared.message.Message.TheVariants as message
use Rattle.rh_otp_model.specs.declared.message.Reply.TheVariants as reply
use Rattle.rh_otp_model.specs.declared.output.Output.TheVariants as output
use Rattle.rh_otp_model.specs.declared.output.Requester.TheVariants.{Sync}
use Rattle.rh_otp_model.specs.declared.process.Process.{Process}
use Rattle.rh_otp_model.specs.Flags.{has_any}
use Rattle.rh_otp_model.specs.Own.{EntryView, controls}
use Rattle.rh_otp_model.specs.Rows.{keydelete}
use Rattle.rh_otp_dist.specs.declared.attempt.AskedBy.{AskedBy}
use Rattle.rh_otp_dist.specs.declared.attempt.AskedBy.TheVariants as asked
use Rattle.rh_otp_dist.specs.declared.state.Stand.{Stand}
use Rattle.rh_otp_dist.specs.declared.state.Stand.TheVariants as stand
use Rattle.rh_otp_dist.specs.declared.state.Standing.{Standing}
use Rattle.rh_otp_dist.specs.declared.state.Standing.TheVariants as standing
use Rattle.rh_otp_dist.specs.Attempts as attempts
use Rattle.rh_otp_dist.specs.Calls as calls
use Rattle.rh_otp_dist.specs.Choosing as choosing
use Rattle.rh_otp_dist.specs.Down as down
use Rattle.rh_otp_dist.specs.Outside as outside
use Rattle.rh_otp_dist.specs.Received as mail
use Rattle.rh_otp_dist.specs.Sending as sending
use Rattle.rh_otp_dist.specs.State.{TurnView, with_state, appl_of, standing_of, with_standing, with_permission, with_losses, permitted, may_run, without_node}
use Rattle.rh_otp_dist.specs.Told as told
use Rattle.rh_otp_dist.specs.Views.{AttemptView, IntroducingView, PermitWaitView, WeighingView}
use Rattle.rh_otp_dist.specs.Waiting as waiting
use Rattle.rh_otp_orders.proofs.Distributing.{Owned, either, does, sends_to, sends_all, to_controller, answers, monitors, frees, answers_each, ends_t_reqs, finishes, runs_elsewhere, weighs, goes_behind, starts_distributed, starts_appl}

-- ---- Waiting

synchronises : (n : Node) (w : IntroducingView) (t : TurnView) → Owned n t → Owned n (waiting.synchronised w t)
synchronises n w t g = frees n Sync (sending.me t) t g

waits_dacs : (n : Node) (nodes known : List Node) (remote : List (App × Node)) (t : TurnView) → Owned n t
    → Owned n (waiting.wait_dacs nodes known remote t)
waits_dacs n [] known remote t g = synchronises n (record { nodes = []; known = known; remote_started = remote }) t g
waits_dacs n (m ∷ nodes) known remote t g = monitors n m t g

introduces : (n : Node) (nodes : List Node) (x : Message) (t : TurnView) → Owned n t → Owned n (waiting.introduce nodes x t)
introduces n [] x t g = g
introduces n (m ∷ nodes) x t g = introduces n nodes x (sending.send_to m x t) (sends_to n m x t g)

introduced : (n : Node) (w : IntroducingView) (m : Node) (nodes : List Node) (x : Message) (t : TurnView) → Owned n t
    → Owned n (waiting.introduced w m nodes x t)
introduced n w m nodes (message.NewNode k allowed started) t g =
    waits_dacs n nodes (m ∷ w.known) (w.remote_started ++ waiting.rows_at k 0 started) (waiting.merge k allowed t) g
introduced n w m nodes x t g = waits_dacs n nodes w.known w.remote_started t g

introduced_by : (n : Node) (w : IntroducingView) (nodes : List Node) (x : Message) (t : TurnView) → Owned n t
    → Owned n (waiting.introduced_by w nodes x t)
introduced_by n w [] x t g = waits_dacs n [] w.known w.remote_started t g
introduced_by n w (m ∷ nodes) x t g = introduced n w m nodes x (sending.demonitor m t) g

weighed : (n : Node) (w : WeighingView) (m : Node) (nodes : List Node) (x : Message) (t : TurnView) → Owned n t
    → Owned n (waiting.weighed w m nodes x t)
weighed n w m nodes (message.Weight a weight k) t g =
    weighs n (choosing.behind_place t.own w.attempt w.candidates w.place) (goes_behind n w t)
    (record w { answers = w.answers ++ (weight, m) ∷ []; nodes = nodes }) t g
weighed n w m nodes x t g =
    weighs n (choosing.behind_place t.own w.attempt w.candidates w.place) (goes_behind n w t) (record w { nodes = nodes }) t g

weighed_by : (n : Node) (w : WeighingView) (nodes : List Node) (x : Message) (t : TurnView) → Owned n t
    → Owned n (waiting.weighed_by w nodes x t)
weighed_by n w [] x t g = weighs n (choosing.behind_place t.own w.attempt w.candidates w.place) (goes_behind n w t) w t g
weighed_by n w (m ∷ nodes) x t g = weighed n w m nodes x (sending.demonitor m t) g

if_asked : (n : Node) (asked_by : AskedBy) (a : App) (m : Node) (d : Dep) (t : TurnView) → Owned n t
    → Owned n (waiting.if_asked asked_by a m d t)
if_asked n asked.Controller a m d t g = to_controller n (message.Reply a (reply.Error (fault.FailedAt m d))) t g
if_asked n asked.Nobody a m d t g = g

fails_elsewhere : (n : Node) (attempt : AttemptView) (m : Node) (d : Dep) (t : TurnView) → Owned n t
    → Owned n (waiting.fail_elsewhere attempt m d t)
fails_elsewhere n attempt m d t g =
    finishes n attempt (standing_of t.state attempt.app) false (waiting.if_asked attempt.asked_by attempt.app m d t)
    (if_asked n attempt.asked_by attempt.app m d t g)

started_anywhere : (n : Node) (attempt : AttemptView) (x : Message) (t : TurnView) → Owned n t
    → Owned n (waiting.started_anywhere attempt x t)
started_anywhere n attempt (message.NodeDown m) t g =
    starts_distributed n (record attempt { permitted = without_node m attempt.permitted })
    (with_state (record t.state { tmp_locals = waiting.without_told_by attempt.app m t.state.tmp_locals }) t) g
started_anywhere n attempt (message.AppStarted m a None) t g = runs_elsewhere n attempt m t g
started_anywhere n attempt (message.AppStarted m a (Some d)) t g = fails_elsewhere n attempt m d t g
started_anywhere n attempt x t g = g

start_told : (n : Node) (attempt : AttemptView) (m : Node) (x : Message) (t : TurnView) → Owned n t
    → Owned n (waiting.start_told attempt m x t)
start_told n attempt m (message.Weight a weight k) t g =
    let x : Message = message.Weight attempt.app (choosing.cached_weight t attempt.app) t.here.node in
    monitors n m (sending.send_to m x t) (sends_to n m x t g)
start_told n attempt m x t g = started_anywhere n attempt x t g

started_there : (n : Node) (attempt : AttemptView) (m : Node) (x : Message) (t : TurnView) → Owned n t
    → Owned n (waiting.started_there attempt m x t)
started_there n attempt m x t g = start_told n attempt m x (sending.demonitor m t) g

-- ---- Told

runs : (n : Node) (a : App) (error : Option Dep) (t : TurnView) → Owned n t → Owned n (told.run a error t)
unfolding told.run
runs n a error t g =
    let x : Message = message.AppStarted t.here.node a error in
    ends_t_reqs n a (sending.outcome_of error) (sending.send_all t.state.known x t) (sends_all n t.state.known x t g)

answers_ends : (n : Node) (a : App) (t : TurnView) → Owned n t → Owned n (told.answer_ends a t)
unfolding told.answer_ends
answers_ends n a t g = answers_each n a Done t.state.s_reqs t g

tells_end : (n : Node) (a : App) (s : Standing) (t : TurnView) → Owned n t → Owned n (told.tell_end a s t)
tells_end n a standing.Local t g = sends_all n t.state.known (message.AppStopped a) t g
tells_end n a (standing.Distributed m) t g = g
tells_end n a s t g = g

doesnt_run : (n : Node) (a : App) (t : TurnView) → Owned n t → Owned n (told.not_run a t)
unfolding told.not_run
doesnt_run n a t g =
    let over : TurnView = sending.del_t_reqs a (Failed fault.Stopped) t in
    let answered : TurnView = told.answer_ends a over in
    tells_end n a (standing_of answered.state a) answered (answers_ends n a over (ends_t_reqs n a (Failed fault.Stopped) t g))

stops : (n : Node) (a : App) (t : TurnView) → Owned n t → Owned n (told.stopped a t)
unfolding told.stopped
stops n a t g = doesnt_run n a t g

answers_node : (n m : Node) (t : TurnView) → Owned n t → Owned n (told.answer_node m t)
answers_node n m t g =
    let x : Message = message.NewNode t.here.node (told.own_flags t) (told.local_flags t.state) in
    either n (has_any (told.local_flags t.state) || not t.burns) (sending.send_to m x t) t (sends_to n m x t g) g

meets_node : (n m : Node) (allowed started : List Bool) (t : TurnView) → Owned n t → Owned n (told.new_node m allowed started t)
unfolding told.new_node
meets_node n m allowed started t g =
    let over : TurnView = waiting.merge m allowed (told.answer_node m t) in
    either n (has_any started) t (with_state (record over.state { known = m ∷ over.state.known }) over) g (answers_node n m t g)

answers_waits : (n : Node) (a : App) (rows : List (App × PermitWaitView)) (t : TurnView) → Owned n t → Owned n (told.answer_waits a rows t)
answers_waits n a [] t g = g
answers_waits n a (row ∷ rows) t g =
    answers_waits n a rows (cond (row.0.0 == a.0) (sending.answer row.1.caller Done t) t)
    (either n (row.0.0 == a.0) (sending.answer row.1.caller Done t) t (answers n row.1.caller Done t g) g)

answers_permits : (n : Node) (a : App) (t : TurnView) → Owned n t → Owned n (told.answer_permits a t)
unfolding told.answer_permits
answers_permits n a t g = answers_waits n a t.state.p_reqs t g

started_elsewhere : (n m : Node) (a : App) (error : Option Dep) (t : TurnView) → Owned n t → Owned n (told.started_elsewhere m a error t)
started_elsewhere n m a error t g =
    let over : TurnView = sending.to_controller (message.Change a (change.Started m)) t in
    answers_permits n a
    (with_state (record (with_standing a (told.standing_at m error) over.state) { tmp_weights = keydelete a over.state.tmp_weights }) over)
    (to_controller n (message.Change a (change.Started m)) t g)

app_started : (n m : Node) (a : App) (error : Option Dep) (t : TurnView) → Owned n t → Owned n (told.app_started m a error t)
unfolding told.app_started
app_started n m a error t g =
    either n (controls t.own a && attempts.has_app a t.state.started) (told.started_elsewhere m a error t) (told.add_remote a m t)
    (started_elsewhere n m a error t g) g

app_stopped : (n : Node) (a : App) (t : TurnView) → Owned n t → Owned n (told.app_stopped a t)
unfolding told.app_stopped
app_stopped n a t g = g

answers_weight : (n : Node) (a : App) (m : Node) (s : Standing) (t : TurnView) → Owned n t → Owned n (told.answer_weight a m s t)
answers_weight n a m standing.RunWaiting t g = sends_to n m (message.Weight a 0 t.here.node) t g
answers_weight n a m s t g = sends_to n m (message.Weight a (choosing.cached_weight t a) t.here.node) t g

weight_told : (n : Node) (a : App) (w : ℕ) (m : Node) (t : TurnView) → Owned n t → Owned n (told.weight_told a w m t)
unfolding told.weight_told
weight_told n a w m t g =
    either n (not (told.goes_on (standing_of t.state a)))
    (with_state (record t.state { tmp_locals = record { app = a; weight = w; node = m } ∷ t.state.tmp_locals }) t) _ g
    (either n t.burns t (told.answer_weight a m (standing_of t.state a) t) g (answers_weight n a m (standing_of t.state a) t g))

restarts_by : (n : Node) (a : App) (s : Standing) (t : TurnView) → Owned n t → Owned n (told.restart_by a s t)
restarts_by n a (standing.Failover m) t g = starts_appl n a asked.Nobody None t g
restarts_by n a s t g = g

restarts : (n : Node) (a : App) (t : TurnView) → Owned n t → Owned n (told.restart a t)
unfolding told.restart
restarts n a t g = restarts_by n a (standing_of t.state a) t g

is_permitted : (n m : Node) (a : App) (allow is_his : Bool) (t : TurnView) → Owned n t → Owned n (told.new_permission m a allow is_his t)
unfolding told.new_permission
is_permitted n m a allow is_his t g =
    let over : TurnView = with_state (with_permission m a allow t.state) t in
    either n (not (controls t.own a)) t _ g
    (either n (not allow && is_his && may_run over.state over.here.node a) (choosing.start_appl a asked.Nobody None over) over
    (starts_appl n a asked.Nobody None over g) g)

-- ---- Down

loses : (n m : Node) (a : App) (s : Standing) (t : TurnView) → Owned n t → Owned n (down.lose m a s t)
loses n m a (standing.Distributed k) t g =
    either n (not (k.0 == m.0)) t _ g
    (either n (may_run t.state t.here.node a) (told.set_standing a (standing.Failover m) t)
    (told.set_standing a standing.Undefined (sending.to_controller (message.Change a change.NotRunning) t)) g
    (to_controller n (message.Change a change.NotRunning) t g))
loses n m a s t g = g

loses_each : (n m : Node) (entries : List EntryView) (t : TurnView) → Owned n t → Owned n (down.lose_each m entries t)
loses_each n m [] t g = g
loses_each n m (e ∷ entries) t g =
    loses_each n m entries (down.lose m e.app (standing_of t.state e.app) t) (loses n m e.app (standing_of t.state e.app) t g)

sets_timer : (n : Node) (a : App) (timeout : ℕ) (t : TurnView) → Owned n t → Owned n (down.set_timer a timeout t)
sets_timer n a timeout t g =
    does n (output.After timeout (message.RestartAppl a ((appl_of t.state a).losses + 1)))
    (with_state (with_losses a ((appl_of t.state a).losses + 1) t.state) t) tt g

times_each : (n : Node) (rows : List (App × ℕ)) (t : TurnView) → Owned n t → Owned n (down.time_each rows t)
times_each n [] t g = g
times_each n (row ∷ rows) t g = times_each n rows (down.set_timer row.0 row.1 t) (sets_timer n row.0 row.1 t g)

stops_waiting : (n : Node) (a : App) (caller : Process) (t : TurnView) → Owned n t → Owned n (down.stop_waiting a caller t)
stops_waiting n a caller t g = to_controller n (message.Change a change.StopIt) t g

stops_row : (n m : Node) (is_even : Bool) (row : App × PermitWaitView) (t : TurnView) → Owned n t → Owned n (down.stop_row m is_even row t)
stops_row n m is_even row t g =
    either n (down.is_none_left (down.still_awaited is_even m row.1.nodes)) (down.stop_waiting row.0 row.1.caller t) t
    (stops_waiting n row.0 row.1.caller t g) g

checks_each : (n m : Node) (is_even : Bool) (kept rows : List (App × PermitWaitView)) (t : TurnView) → Owned n t
    → Owned n (down.check_each m is_even kept rows t)
checks_each n m is_even kept [] t g = g
checks_each n m is_even kept (row ∷ rows) t g =
    checks_each n m (not is_even) (down.keep_row m is_even row kept) rows (down.stop_row m is_even row t) (stops_row n m is_even row t g)

checks_waiting : (n m : Node) (t : TurnView) → Owned n t → Owned n (down.check_waiting m t)
unfolding down.check_waiting
checks_waiting n m t g = checks_each n m true [] t.state.p_reqs t g

sees_down : (n m : Node) (t : TurnView) → Owned n t → Owned n (down.node_down m t)
unfolding down.node_down
sees_down n m t g =
    let lost : TurnView = down.forget_node m (down.lose_each m t.own.entries t) in
    times_each n (reverse (down.lost_with m t)) (down.unknow m (down.check_waiting m lost))
    (checks_waiting n m lost (loses_each n m t.own.entries t g))

-- ---- Calls

takes_over_from : (n : Node) (a : App) (restart : Restart) (caller : Process) (s : Standing) (t : TurnView) → Owned n t
    → Owned n (calls.take_over_from a restart caller s t)
takes_over_from n a restart caller (standing.Distributed m) t g = to_controller n (message.Change a (change.Takeover m (Some restart))) t g
takes_over_from n a restart caller standing.Local t g = answers n caller (Failed (fault.RunsLocally a)) t g
takes_over_from n a restart caller s t g = answers n caller (Failed (fault.RunsNowhere a)) t g

takes_over : (n : Node) (a : App) (restart : Restart) (caller : Process) (t : TurnView) → Owned n t
    → Owned n (calls.take_over a restart caller t)
unfolding calls.take_over
takes_over n a restart caller t g = takes_over_from n a restart caller (standing_of t.state a) t g

forbids_here : (n : Node) (a : App) (caller : Process) (nodes : List Node) (t : TurnView) → Owned n t
    → Owned n (calls.forbid_here a caller nodes t)
forbids_here n a caller [] t g = stops_waiting n a caller t g
forbids_here n a caller (m ∷ nodes) t g = g

permits_by : (n : Node) (a : App) (allow only_loaded : Bool) (caller : Process) (s : Standing) (t : TurnView) → Owned n t
    → Owned n (calls.permit_by a allow only_loaded caller s t)
permits_by n a allow only_loaded caller s t g =
    either n (only_loaded || (allow && told.is_local s)) (sending.answer caller Done t) _ (answers n caller Done t g)
    (either n allow (choosing.start_appl a asked.Nobody (Some (calls.before_permit a caller t.state)) t) _
    (starts_appl n a asked.Nobody (Some (calls.before_permit a caller t.state)) t g)
    (either n (calls.is_away s) (sending.answer caller Done t) (calls.forbid_here a caller (permitted t.state a) t)
    (answers n caller Done t g)
    (forbids_here n a caller (permitted t.state a) t g)))

tells_permission : (n : Node) (a : App) (allow : Bool) (t : TurnView) → Owned n t → Owned n (calls.tell_permission a allow t)
tells_permission n a allow t g =
    let over : TurnView = with_state (with_permission t.here.node a allow t.state) t in
    sends_all n (choosing.backwards t.own a) (message.NewPermission t.here.node a allow (told.is_local (standing_of t.state a))) over g

permits : (n : Node) (a : App) (allow only_loaded : Bool) (caller : Process) (t : TurnView) → Owned n t
    → Owned n (calls.permit a allow only_loaded caller t)
unfolding calls.permit
permits n a allow only_loaded caller t g =
    permits_by n a allow only_loaded caller (standing_of t.state a) (calls.tell_permission a allow t) (tells_permission n a allow t g)

gets_nodes : (n : Node) (a : App) (caller : Process) (t : TurnView) → Owned n t → Owned n (calls.get_nodes a caller t)
unfolding calls.get_nodes
gets_nodes n a caller t g =
    does n (output.Send (record { from = sending.me t; to = caller; message = message.Nodes (calls.known_nodes a t) })) t g.0 g

-- ---- Received

start_requested : (n : Node) (a : App) (t : TurnView) → Owned n t → Owned n (mail.start_request a t)
start_requested n a t g =
    either n t.has_lock (choosing.start_appl a asked.Controller None t)
    (with_state (record t.state { parked = t.state.parked ++ a ∷ [] }) t)
    (starts_appl n a asked.Controller None t g) g

handles : (n : Node) (m : Message) (t : TurnView) → Owned n t → Owned n (mail.handled m t)
handles n (message.StartRequest a) t g = start_requested n a t g
handles n (message.Run a error) t g = runs n a error t g
handles n (message.NotRun a) t g = doesnt_run n a t g
handles n (message.Stopped a) t g = stops n a t g
handles n (message.NewNode m allowed started) t g = meets_node n m allowed started t g
handles n (message.AppStarted m a error) t g = app_started n m a error t g
handles n (message.AppStopped a) t g = app_stopped n a t g
handles n (message.Weight a w m) t g = weight_told n a w m t g
handles n (message.NodeDown m) t g = sees_down n m t g
handles n (message.RestartAppl a loss) t g = restarts n a t g
handles n (message.NewPermission m a allow is_his) t g = is_permitted n m a allow is_his t g
handles n (message.TakeOver a restart_type caller) t g = takes_over n a restart_type caller t g
handles n (message.PermitDistributed a allow only_loaded caller) t g = permits n a allow only_loaded caller t g
handles n (message.GetNodes a caller) t g = gets_nodes n a caller t g
handles n m t g = g

resumes : (n : Node) (s : Stand) (m : Message) (t : TurnView) → Owned n t → Owned n (mail.resumed s m t)
resumes n stand.Idle m t g = handles n m t g
resumes n stand.ForGo m t g = g
resumes n (stand.ForLock nodes) m t g = g
resumes n (stand.ForIntroduction w) m t g = introduced_by n w w.nodes m t g
resumes n (stand.ForWeight w) m t g = weighed_by n w w.nodes m t g
resumes n (stand.ForStart attempt k) m t g = started_there n attempt k m t g
resumes n (stand.ForAnyStart attempt) m t g = started_anywhere n attempt m t g

resumes_if : (n : Node) (s : Stand) (m : Option Message) (t : TurnView) → Owned n t → Owned n (mail.resumed_if s m t)
resumes_if n s None t g = g
resumes_if n s (Some m) t g = resumes n s m t g

pub handles_next : (n : Node) (place : ℕ) (t : TurnView) → Owned n t → Owned n (mail.handle_next place t)
unfolding mail.handle_next
handles_next n place t g = resumes_if n t.state.stand (slice_get t.state.mail place) (mail.taken_out place t) g

pub is_introduced : (n : Node) (nodes : List Node) (t : TurnView) → Owned n t → Owned n (outside.introduced_to nodes t)
unfolding outside.introduced_to
is_introduced n nodes t g =
    let x : Message = outside.introduction t in
    waits_dacs n nodes (t.here.node ∷ []) [] (waiting.introduce nodes x t) (introduces n nodes x t g)
