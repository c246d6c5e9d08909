-- What dist_ac wants of a controller (application_controller, handle_info({ac_change_application_req, ..})), and its messages as a whole.
use Rattle.std.specs.Prelude.{List, [], ◌∷◌, ◌&&◌, not, Bool, true, false, Option, Some, None, is_some, if◌then◌else◌}
use Rattle.std.specs.Option.{option_or}
use Rattle.rh_model.specs.ClusterView.{has_phases}
use Rattle.rh_model.specs.declared.node.App.{App}
use Rattle.rh_model.specs.declared.settings.Restart.{Restart}
use Rattle.rh_otp_model.specs.declared.message.Change.{Change}
use Rattle.rh_otp_model.specs.declared.message.Change.TheVariants as change_of
use Rattle.rh_otp_model.specs.declared.message.Message.{Message}
use Rattle.rh_otp_model.specs.declared.message.Message.TheVariants as message
use Rattle.rh_otp_model.specs.declared.process.StartType.{StartType}
use Rattle.rh_otp_model.specs.declared.process.StartType.TheVariants.{Normal, Failover, Takeover}
use Rattle.rh_otp_model.specs.Rows.{keyfind, keydelete, keyreplace, has_row}
use Rattle.rh_otp_controller.specs.declared.state.Place.{Place}
use Rattle.rh_otp_controller.specs.declared.state.Place.TheVariants as place_of
use Rattle.rh_otp_controller.specs.State.{TurnView}
use Rattle.rh_otp_controller.specs.Sending.{control, stop_appl}
use Rattle.rh_otp_controller.specs.Starting.{spawn_starter, add_starting, add_request, has_started, start_reply}
use Rattle.rh_otp_controller.specs.Calls.{start, stop, stop_running, permit, top_ends}

-- the first of two restart types that is known
abbrev pub kept_restart : Option Restart → Option (Option Restart) → Option Restart
kept_restart (Some restart) started = Some restart
kept_restart None (Some restart) = restart
kept_restart None None = None

-- do_start/5: unless somebody has asked for its start already
unfoldable pub do_start : App → Option Restart → StartType → TurnView → TurnView
do_start a restart kind t =
    if has_row a t.state.start_req then t
    else (let told : TurnView = spawn_starter a kind t in
    add_request a None (if has_row a told.state.starting then told
    else add_starting a (kept_restart restart (keyfind a t.state.started)) kind told))

-- it runs at this node now, and not as it did
abbrev pub set_elsewhere : App → Place → TurnView → TurnView
set_elsewhere a place t = record t { state = record t.state { running = (a, place) ∷ keydelete a t.state.running } }

-- of one that runs elsewhere, or nowhere: a failover is a normal start where there are no start phases
abbrev pub start_here : App → Change → TurnView → TurnView
start_here a (change_of.Failover n) t = do_start a None (if has_phases t.cluster a then Failover n else Normal) t
start_here a (change_of.Takeover n restart) t = do_start a restart (Takeover n) t
start_here a what t = do_start a None Normal t

-- of one that runs at this place and is started
abbrev pub change_running : App → Change → Place → TurnView → TurnView
change_running a (change_of.Started n) place t = set_elsewhere a (place_of.At n) (stop_appl a (Some place) t)
change_running a change_of.StopIt place t =
    let told : TurnView = control a (message.NotRun a) (stop_appl a (Some place) t) in
    record told { state = record told.state { running = keyreplace a place_of.Nowhere told.state.running } }
change_running a change_of.NotRunning place t = record t { state = record t.state { running = keydelete a t.state.running } }
change_running a what place_of.Here t = control a (message.Run a None) t
change_running a what place t = start_here a what t

-- of one that doesn't run, or isn't started
abbrev pub change_idle : App → Change → TurnView → TurnView
change_idle a (change_of.Started n) t = set_elsewhere a (place_of.At n) t
change_idle a change_of.StartIt t =
    if has_row a t.state.running then t
    else if has_row a t.state.started then (let told : TurnView = do_start a None Normal t in
    record told { state = record told.state { started = keydelete a told.state.started } })
    else if has_row a t.state.starting then do_start a None Normal t
    else t
change_idle a what t = t

abbrev pub changed : App → Change → Option Place → TurnView → TurnView
changed a what (Some place) t = if has_row a t.state.started then change_running a what place t else change_idle a what t
changed a what None t = change_idle a what t

-- handle_info({ac_change_application_req, ..})
unfoldable pub change : App → Change → TurnView → TurnView
change a what t = changed a what (keyfind a t.state.running) t

-- what a controller does at a message; others have no meaning for it
abbrev pub handled : Message → TurnView → TurnView
handled (message.Start a restart caller) t = start a restart caller t
handled (message.Stop a caller) t = stop a caller t
handled (message.Permit a allow caller) t = permit a allow caller t
handled (message.TopEnds a is_normal caller) t = top_ends a is_normal caller t
handled (message.ApplicationStarted a error) t = has_started a place_of.Here error t
handled (message.Reply a what) t = start_reply a what t
handled (message.Change a what) t = change a what t
handled m t = t

-- one that ends handles none
unfoldable pub received : Message → TurnView → TurnView
received m t = if t.state.is_ending then t else handled m t
