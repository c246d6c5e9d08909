-- What its controller and other nodes tell a dist_ac (dist_ac, handle_info/2).
use Rattle.std.specs.Prelude.{ℕ, List, [], ◌∷◌, ◌==◌, ◌&&◌, ◌||◌, not, map, slice_get, unwrap_or, Bool, true, false, Option, Some, None, if◌then◌else◌}
use Rattle.rh_model.specs.declared.node.App.{App}
use Rattle.rh_model.specs.declared.node.Node.{Node}
use Rattle.rh_model.specs.declared.settings.Dep.{Dep}
use Rattle.rh_otp_model.specs.declared.fault.Fault.TheVariants.{Stopped}
use Rattle.rh_otp_model.specs.declared.fault.Outcome.TheVariants.{Done, Failed}
use Rattle.rh_otp_model.specs.declared.message.Change.TheVariants as change
use Rattle.rh_otp_model.specs.declared.message.Message.TheVariants as message
use Rattle.rh_otp_model.specs.declared.process.Process.{Process}
use Rattle.rh_otp_model.specs.Flags.{has_any}
use Rattle.rh_otp_model.specs.Own.{controls}
use Rattle.rh_otp_model.specs.Rows.{keydelete, keystore, without, without_rows}
use Rattle.rh_otp_dist.specs.declared.attempt.AskedBy.TheVariants as asked
use Rattle.rh_otp_dist.specs.declared.state.Appl.{Appl}
use Rattle.rh_otp_dist.specs.declared.state.Standing.{Standing}
use Rattle.rh_otp_dist.specs.declared.state.Standing.TheVariants as standing
use Rattle.rh_otp_dist.specs.State.{TurnView, DistView, with_state, standing_of, with_standing, may_run, with_permission}
use Rattle.rh_otp_dist.specs.Views.{PermitWaitView}
use Rattle.rh_otp_dist.specs.Sending.{send_to, send_all, to_controller, answer, answer_each, outcome_of, del_t_reqs}
use Rattle.rh_otp_dist.specs.Attempts.{has_app}
use Rattle.rh_otp_dist.specs.Choosing.{cached_weight, start_appl}
use Rattle.rh_otp_dist.specs.Waiting.{merge}

-- an application stands so now
abbrev pub set_standing : App → Standing → TurnView → TurnView
set_standing a s t = with_state (with_standing a s t.state) t

-- what stands behind a start that lacked this, or nothing
abbrev pub standing_behind : Option Dep → Standing
standing_behind None = standing.Local
standing_behind (Some d) = standing.Undefined

-- handle_info({ac_application_run, ..})
unfoldable pub run : App → Option Dep → TurnView → TurnView
run a error t =
    set_standing a (standing_behind error)
    (del_t_reqs a (outcome_of error) (send_all t.state.known (message.AppStarted t.here.node a error) t))

-- with these that wait for the end of an application
abbrev pub with_ends : List (App × Process) → TurnView → TurnView
with_ends rows t = with_state (record t.state { s_reqs = rows }) t

-- who waits for the end of an application is answered
unfoldable pub answer_ends : App → TurnView → TurnView
answer_ends a t = with_ends (without_rows a t.state.s_reqs) (answer_each a Done t.state.s_reqs t)

-- it is known to run at a node
abbrev pub add_remote : App → Node → TurnView → TurnView
add_remote a n t = with_state (record t.state { remote_started = (a, n) ∷ t.state.remote_started }) t

-- It runs here no more: the others are told; one that runs elsewhere isn't started here, but is known.
abbrev pub tell_end : App → Standing → TurnView → TurnView
tell_end a standing.Local t = send_all t.state.known (message.AppStopped a) t
tell_end a (standing.Distributed n) t = add_remote a n t
tell_end a s t = t

-- handle_info({ac_application_not_run, ..})
unfoldable pub not_run : App → TurnView → TurnView
not_run a t =
    let told : TurnView = answer_ends a (del_t_reqs a (Failed Stopped) t) in
    set_standing a standing.Undefined (tell_end a (standing_of told.state a) told)

-- handle_info({ac_application_stopped, ..})
unfoldable pub stopped : App → TurnView → TurnView
stopped a t =
    let told : TurnView = not_run a t in
    with_state (record told.state { started = without a told.state.started }) told

-- does the application run here?
abbrev pub is_local : Standing → Bool
is_local standing.Local = true
is_local s = false

-- for each application, whether it runs here
abbrev pub local_flags : DistView → List Bool
local_flags d = map (λ (appl : Appl). is_local appl.standing) d.appls

-- which applications it may run itself
abbrev pub own_flags : TurnView → List Bool
own_flags t = unwrap_or (slice_get t.state.may t.here.node.0) []

-- An introduction is answered, but not one that is an answer to what nobody waits for any more: it names what runs. But one of a node
-- that runs nothing is taken for an introduction, and answered again: so two nodes of which neither runs anything never end.
abbrev pub answer_node : Node → TurnView → TurnView
answer_node n t =
    if has_any (local_flags t.state) || not t.burns
    then send_to n (message.NewNode t.here.node (own_flags t) (local_flags t.state)) t else t

-- handle_info({dist_ac_new_node, ..})
unfoldable pub new_node : Node → List Bool → List Bool → TurnView → TurnView
new_node n allowed started t =
    if has_any started then t
    else (let told : TurnView = merge n allowed (answer_node n t) in
    with_state (record told.state { known = n ∷ told.state.known }) told)

-- answers to all of these that wait in permit/6 for a start of the application
abbrev pub answer_waits : App → List (App × PermitWaitView) → TurnView → TurnView
answer_waits a [] t = t
answer_waits a (row ∷ rows) t = answer_waits a rows (if row.0.0 == a.0 then answer row.1.caller Done t else t)

-- with these that wait in permit/6
abbrev pub with_waits : List (App × PermitWaitView) → TurnView → TurnView
with_waits rows t = with_state (record t.state { p_reqs = rows }) t

-- who waits in permit/6 for a start of the application is answered
unfoldable pub answer_permits : App → TurnView → TurnView
answer_permits a t = with_waits (without_rows a t.state.p_reqs) (answer_waits a t.state.p_reqs t)

-- where it runs, as another node tells
abbrev pub standing_at : Node → Option Dep → Standing
standing_at n None = standing.Distributed n
standing_at n (Some d) = standing.Undefined

-- of an application that is started here, too
abbrev pub started_elsewhere : Node → App → Option Dep → TurnView → TurnView
started_elsewhere n a error t =
    let told : TurnView = to_controller (message.Change a (change.Started n)) t in
    answer_permits a
    (with_state (record (with_standing a (standing_at n error) told.state) { tmp_weights = keydelete a told.state.tmp_weights }) told)

-- handle_info({dist_ac_app_started, ..})
unfoldable pub app_started : Node → App → Option Dep → TurnView → TurnView
app_started n a error t =
    if controls t.own a && has_app a t.state.started then started_elsewhere n a error t
    else add_remote a n t

-- handle_info({dist_ac_app_stopped, ..})
unfoldable pub app_stopped : App → TurnView → TurnView
app_stopped a t = with_state (record (with_standing a standing.Undefined t.state) { remote_started = keydelete a t.state.remote_started }) t

-- does it answer a weight of the application, which it doesn't wait for?
abbrev pub goes_on : Standing → Bool
goes_on standing.Undefined = false
goes_on (standing.Failover n) = false
goes_on s = true

-- an application's weight is kept
abbrev pub keep_weight : App → ℕ → TurnView → TurnView
keep_weight a w t = with_state (record t.state { tmp_weights = keystore a w t.state.tmp_weights }) t

-- a weight that is left over is answered again, and so is the answer
abbrev pub answer_weight : App → Node → Standing → TurnView → TurnView
answer_weight a n standing.RunWaiting t = send_to n (message.Weight a 0 t.here.node) t
answer_weight a n s t = keep_weight a (cached_weight t a) (send_to n (message.Weight a (cached_weight t a) t.here.node) t)

-- handle_info({dist_ac_weight, ..})
unfoldable pub weight_told : App → ℕ → Node → TurnView → TurnView
weight_told a w n t =
    if not (goes_on (standing_of t.state a))
    then with_state (record t.state { tmp_locals = record { app = a; weight = w; node = n } ∷ t.state.tmp_locals }) t
    else if t.burns then t
    else answer_weight a n (standing_of t.state a) t

-- handle_info({internal_restart_appl, ..}), restart_appl/2: a timer isn't cancelled when the application runs again
abbrev pub restart_by : App → Standing → TurnView → TurnView
restart_by a (standing.Failover n) t = start_appl a asked.Nobody None t
restart_by a s t = t

unfoldable pub restart : App → TurnView → TurnView
restart a t = restart_by a (standing_of t.state a) t

-- handle_info({dist_ac_new_permission, ..})
unfoldable pub new_permission : Node → App → Bool → Bool → TurnView → TurnView
new_permission n a allow is_his t =
    let told : TurnView = with_state (with_permission n a allow t.state) t in
    if not (controls t.own a) then t
    else if not allow && is_his && may_run told.state told.here.node a then start_appl a asked.Nobody None told
    else told
