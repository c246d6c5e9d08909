-- Calls of an operator (application_controller, handle_call/3).
use Rattle.std.specs.Prelude.{List, [], ◌∷◌, ◌||◌, ◌&&◌, not, Bool, true, false, Option, Some, None, is_none, is_some, if◌then◌else◌}
use Rattle.std.specs.Option.{option_map}
use Rattle.rh_model.specs.declared.node.App.{App}
use Rattle.rh_model.specs.declared.settings.Dep.{Dep}
use Rattle.rh_model.specs.declared.settings.Restart.{Restart}
use Rattle.rh_model.specs.declared.settings.Restart.TheVariants.{Permanent, Transient}
use Rattle.rh_otp_model.specs.declared.fault.Fault.TheVariants.{AlreadyStarted, NeedsStarted, NotStarted, NotRunning}
use Rattle.rh_otp_model.specs.declared.fault.Outcome.TheVariants.{Done, IsStarted, IsOnlyLoaded, Failed}
use Rattle.rh_otp_model.specs.declared.message.Message.TheVariants.{StartRequest, Stopped}
use Rattle.rh_otp_model.specs.declared.output.Event.TheVariants as event
use Rattle.rh_otp_model.specs.declared.process.Process.{Process}
use Rattle.rh_otp_model.specs.declared.process.StartType.TheVariants.{Normal}
use Rattle.rh_otp_model.specs.Own.{controls}
use Rattle.rh_otp_model.specs.Rows.{keyfind, keydelete, keystore, has_row, without}
use Rattle.rh_otp_controller.specs.declared.state.Place.{Place}
use Rattle.rh_otp_controller.specs.declared.state.Place.TheVariants.{Here}
use Rattle.rh_otp_controller.specs.State.{TurnView}
use Rattle.rh_otp_controller.specs.Sending.{tell, reply, control, stop_appl}
use Rattle.rh_otp_controller.specs.Starting.{lacks_started, spawn_starter, add_starting, add_request}

-- is the application forbidden at this node, as its controller knows?
abbrev pub is_forbidden : Option Bool → Bool
is_forbidden (Some false) = true
is_forbidden allowed = false

-- a start that nothing hinders: dist_ac decides where it has the application, else it starts here
abbrev pub request_start : App → Restart → Process → TurnView → TurnView
request_start a restart caller t =
    add_request a (Some caller) (add_starting a (Some restart) Normal
    (if controls t.own a then control a (StartRequest a) t else spawn_starter a Normal t))

abbrev pub start_unless : App → Restart → Process → Option Dep → TurnView → TurnView
start_unless a restart caller (Some d) t = reply caller (Failed (NeedsStarted d)) t
start_unless a restart caller None t =
    if not (controls t.own a) && is_forbidden (keyfind a t.state.permissions)
    then reply caller Done (record t { state = record t.state { start_p_false = (a, restart) ∷ t.state.start_p_false } })
    else request_start a restart caller t

-- handle_call({start_application, ..}), check_start_cond/4
unfoldable pub start : App → Restart → Process → TurnView → TurnView
start a restart caller t =
    if has_row a t.state.start_req then add_request a (Some caller) t
    else if has_row a t.state.running then reply caller (Failed (AlreadyStarted a)) t
    else start_unless a restart caller (lacks_started t a) t

-- it stops here, if it runs here, and stands in `running` no more
abbrev pub stop_running : App → TurnView → TurnView
stop_running a t =
    let told : TurnView = stop_appl a (keyfind a t.state.running) t in
    record told { state = record told.state { running = keydelete a told.state.running } }

-- handle_call({stop_application, ..})
unfoldable pub stop : App → Process → TurnView → TurnView
stop a caller t =
    if has_row a t.state.running || has_row a t.state.started
    then (let told : TurnView = stop_running a t in
    reply caller Done (control a (Stopped a) (record told { state = record told.state { started = keydelete a told.state.started } })))
    else reply caller (Failed (NotStarted a)) t

-- update_permissions/2
abbrev pub update_permissions : App → Bool → TurnView → TurnView
update_permissions a allow t = record t { state = record t.state { permissions = keystore a allow t.state.permissions } }

-- of a local application that doesn't run: it waits for its permission with this restart type, or isn't started
abbrev pub permit_waiting : App → Bool → Process → Option (Option Restart) → TurnView → TurnView
permit_waiting a true caller (Some restart) t = add_request a (Some caller) (add_starting a restart Normal (spawn_starter a Normal t))
permit_waiting a allow caller waits t = reply caller Done t

-- of one that was started before
abbrev pub permit_started : App → Bool → Process → Option Restart → TurnView → TurnView
permit_started a true caller restart t =
    permit_waiting a true caller (Some restart) (record t { state = record t.state { started = keydelete a t.state.started } })
permit_started a false caller restart t = permit_waiting a false caller (Some restart) t

-- One that was started while forbidden is taken out of the list in either case, so a second "no" forgets it.
abbrev pub permit_idle : App → Bool → Process → Option (Option Restart) → TurnView → TurnView
permit_idle a allow caller (Some restart) t = permit_started a allow caller restart t
permit_idle a allow caller None t =
    permit_waiting a allow caller (option_map Some (keyfind a t.state.start_p_false))
    (record t { state = record t.state { start_p_false = keydelete a t.state.start_p_false } })

-- of an application that dist_ac controls: it is to be asked, too
abbrev pub permit_distributed : App → Bool → Process → TurnView → TurnView
permit_distributed a allow caller t =
    reply caller (if has_row a t.state.started || has_row a t.state.starting then IsStarted else IsOnlyLoaded) (update_permissions a allow t)

-- handle_call({permit_application, ..}): of an application that runs here the permission isn't kept
unfoldable pub permit : App → Bool → Process → TurnView → TurnView
permit a allow caller t =
    if controls t.own a then permit_distributed a allow caller t
    else if has_row a t.state.running then reply caller Done (if allow then t else stop_running a t)
    else permit_idle a allow caller (keyfind a t.state.started) (update_permissions a allow t)

-- does the end of an application end its node, by its restart type and how it ended (application(3))?
abbrev pub ends_with : Option (Option Restart) → Bool → Bool
ends_with None is_normal = true
ends_with (Some (Some Permanent)) is_normal = true
ends_with (Some (Some Transient)) is_normal = not is_normal
ends_with (Some restart) is_normal = false

-- does it run here?
abbrev pub is_here : Option Place → Bool
is_here (Some Here) = true
is_here place = false

-- handle_info({'EXIT', ..}): the application ends by itself
unfoldable pub top_ends : App → Bool → Process → TurnView → TurnView
top_ends a is_normal caller t =
    if is_here (keyfind a t.state.running)
    then (let told : TurnView = reply caller Done t in
    let gone : TurnView = tell (event.Stopped a t.here.node) (record told {
      state = record told.state {
        running = keydelete a told.state.running;
        ended = a ∷ without a told.state.ended;
      };
    }) in
    let last : TurnView = control a (Stopped a) gone in
    record last { state = record last.state { is_ending = ends_with (keyfind a last.state.started) is_normal } })
    else reply caller (Failed NotRunning) t
