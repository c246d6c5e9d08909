-- How an application is started, and what becomes of its start.
use Rattle.std.specs.Prelude.{List, [], ◌∷◌, ◌++◌, ◌==◌, ◌&&◌, not, Bool, true, false, Option, Some, None, is_some, find, filter, if◌then◌else◌}
use Rattle.rh_model.specs.ClusterView.{deps_of, is_platform}
use Rattle.rh_model.specs.declared.node.App.{App}
use Rattle.rh_model.specs.declared.settings.Dep.{Dep}
use Rattle.rh_model.specs.declared.settings.Dep.TheVariants.{Listed, Platform}
use Rattle.rh_model.specs.declared.settings.Restart.{Restart}
use Rattle.rh_model.specs.declared.settings.Restart.TheVariants.{Permanent, Temporary}
use Rattle.rh_otp_model.specs.declared.fault.Fault.{Fault}
use Rattle.rh_otp_model.specs.declared.fault.Fault.TheVariants.{NeedsRunning}
use Rattle.rh_otp_model.specs.declared.fault.Outcome.{Outcome}
use Rattle.rh_otp_model.specs.declared.fault.Outcome.TheVariants.{Done, Failed}
use Rattle.rh_otp_model.specs.declared.message.Message.TheVariants.{ApplicationStarted, Run}
use Rattle.rh_otp_model.specs.declared.message.Reply.{Reply}
use Rattle.rh_otp_model.specs.declared.message.Reply.TheVariants as reply_of
use Rattle.rh_otp_model.specs.declared.output.Event.TheVariants as event
use Rattle.rh_otp_model.specs.declared.output.Output.TheVariants.{Send}
use Rattle.rh_otp_model.specs.declared.process.Process.{Process}
use Rattle.rh_otp_model.specs.declared.process.Role.TheVariants as role
use Rattle.rh_otp_model.specs.declared.process.StartType.{StartType}
use Rattle.rh_otp_model.specs.declared.process.StartType.TheVariants.{Normal, Takeover}
use Rattle.rh_otp_model.specs.Processes.{process_at}
use Rattle.rh_otp_model.specs.Rows.{keyfind, keydelete, keystore, has_row, without, without_rows}
use Rattle.rh_otp_controller.specs.declared.state.Place.{Place}
use Rattle.rh_otp_controller.specs.declared.state.Place.TheVariants.{Here, At}
use Rattle.rh_otp_controller.specs.declared.state.Starting.{Starting}
use Rattle.rh_otp_controller.specs.State.{TurnView}
use Rattle.rh_otp_controller.specs.Sending.{with_output, tell, reply_to, control}

-- does the node have what an application needs, where these applications count?
abbrev pub has_need : (App → Bool) → TurnView → Dep → Bool
has_need counts t (Listed a) = counts a
has_need counts t (Platform p) = is_platform t.cluster t.here.node p

-- the first that the application needs and that isn't there
abbrev pub lacks : (App → Bool) → TurnView → App → Option Dep
lacks counts t a = find (λ d. not (has_need counts t d)) (deps_of t.cluster a)

-- of what it needs, the first that isn't started here
abbrev pub lacks_started : TurnView → App → Option Dep
lacks_started t a = lacks (λ b. has_row b t.state.started) t a

-- of what it needs, the first that isn't running, here or elsewhere
abbrev pub lacks_running : TurnView → App → Option Dep
lacks_running t a = lacks (λ b. has_row b t.state.running) t a

-- the starter's answer
abbrev pub answer_start : App → Option Dep → TurnView → TurnView
answer_start a error t = with_output (Send (record {
  from = process_at t.here (role.Starter a);
  to = process_at t.here role.Controller;
  message = ApplicationStarted a error;
})) t

-- an application hasn't ended by itself since its last start
abbrev pub forget_end : App → TurnView → TurnView
forget_end a t = record t { state = record t.state { ended = without a t.state.ended } }

-- spawn_starter/4, start_appl/3: a start takes no time, and fails for what it needs alone
abbrev pub spawned : App → StartType → Option Dep → TurnView → TurnView
spawned a kind None t = answer_start a None
    (tell (event.Started a t.here.node kind) (forget_end a t))
spawned a kind (Some d) t = answer_start a (Some d) t

unfoldable pub spawn_starter : App → StartType → TurnView → TurnView
spawn_starter a kind t = spawned a kind (lacks_running t a) t

-- with an application that is being started
abbrev pub add_starting : App → Option Restart → StartType → TurnView → TurnView
add_starting a restart kind t = record t { state = record t.state { starting = (a, record { restart = restart; kind = kind }) ∷ t.state.starting } }

-- with one more that asks for the start of an application
abbrev pub add_request : App → Option Process → TurnView → TurnView
add_request a caller t = record t { state = record t.state { start_req = (a, caller) ∷ t.state.start_req } }

-- answers to all of these that have asked for the application
abbrev pub reply_each : App → Outcome → List (App × Option Process) → TurnView → TurnView
reply_each a outcome [] t = t
reply_each a outcome (row ∷ rows) t = reply_each a outcome rows (if row.0.0 == a.0 then reply_to row.1 outcome t else t)

-- with these that have asked for starts
abbrev pub with_requests : List (App × Option Process) → TurnView → TurnView
with_requests rows t = record t { state = record t.state { start_req = rows } }

-- reply_to_requester/3
unfoldable pub reply_to_requester : App → Outcome → TurnView → TurnView
reply_to_requester a outcome t = with_requests (without_rows a t.state.start_req) (reply_each a outcome t.state.start_req t)

-- an application isn't being started any more
abbrev pub end_starting : App → TurnView → TurnView
end_starting a t = record t { state = record t.state { starting = keydelete a t.state.starting } }

-- it runs at this place, and is started with this restart type
abbrev pub set_running : App → Place → Option Restart → TurnView → TurnView
set_running a place restart t = record t {
  state = record t.state {
    running = keystore a place t.state.running;
    started = keystore a restart t.state.started;
  };
}

-- does the end of an application with this restart type end its node, where it can't be started?
abbrev pub ends_node : Option Restart → Bool
ends_node (Some Temporary) = false
ends_node restart = true

-- the answer that a start has
abbrev pub outcome_of : Option Dep → Outcome
outcome_of None = Done
outcome_of (Some d) = Failed (NeedsRunning d)

abbrev pub started_by : App → Place → Option Dep → Option Starting → TurnView → TurnView
started_by a place error None t = t
started_by a Here None (Some row) t = set_running a Here row.restart (control a (Run a None) (end_starting a t))
started_by a place None (Some row) t = set_running a place row.restart (end_starting a t)
started_by a place (Some d) (Some row) t =
    let told : TurnView = control a (Run a (Some d)) (end_starting a t) in
    record told { state = record told.state { is_ending = ends_node row.restart } }

-- handle_application_started/3: an application was started at this place, or lacks something
unfoldable pub has_started : App → Place → Option Dep → TurnView → TurnView
has_started a place error t =
    let told : TurnView = reply_to_requester a (outcome_of error) t in
    started_by a place error (keyfind a told.state.starting) told

-- the restart type that ends a node whatever it ends by
abbrev pub is_permanent : Option Restart → Bool
is_permanent (Some Permanent) = true
is_permanent restart = false

abbrev pub replied : App → Reply → Option Starting → TurnView → TurnView
replied a what None t = t
replied a reply_of.StartIt (Some row) t = spawn_starter a row.kind t
replied a (reply_of.Started n) (Some row) t = has_started a (At n) None t
replied a reply_of.NotStarted (Some row) t =
    let told : TurnView = end_starting a (reply_to_requester a Done t) in
    record told { state = record told.state { started = (a, row.restart) ∷ told.state.started } }
replied a (reply_of.Takeover n) (Some row) t = spawn_starter a (Takeover n) (add_starting a row.restart (Takeover n) (end_starting a t))
replied a (reply_of.Error fault) (Some row) t =
    let told : TurnView = reply_to_requester a (Failed fault) t in
    if is_permanent row.restart then record told { state = record told.state { is_ending = true } } else end_starting a told

-- handle_info({ac_start_application_reply, ..})
unfoldable pub start_reply : App → Reply → TurnView → TurnView
start_reply a what t = replied a what (keyfind a t.state.starting) t
