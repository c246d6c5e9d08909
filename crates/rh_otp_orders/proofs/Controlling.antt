-- A controller sends from its node in a turn, and tells of it, and does nothing else.
use Rattle.std.proofs.Common.{◌≡◌, ◌&&◌, ◌||◌, ◌==◌, not, Bool, true, false, cond, List, [], ◌∷◌, Option, Some, None, sym, ap}
use Rattle.std.specs.Option.{option_map}
use Rattle.std.proofs.lemmas.Bool.{eq-eqb}
use Rattle.std.proofs.lemmas.List.Elements.{All-push}
use Rattle.rh_model.specs.ClusterView.{has_phases}
use Rattle.rh_model.specs.declared.node.App.{App}
use Rattle.rh_model.specs.declared.node.Node.{Node}
use Rattle.rh_model.specs.declared.settings.Dep.{Dep}
use Rattle.rh_model.specs.declared.settings.Restart.{Restart}
use Rattle.rh_otp_model.specs.declared.fault.Fault.TheVariants.{AlreadyStarted, NeedsStarted, NotStarted, NotRunning}
use Rattle.rh_otp_model.specs.declared.fault.Outcome.{Outcome}
use Rattle.rh_otp_model.specs.declared.fault.Outcome.TheVariants as outcome
use Rattle.rh_otp_model.specs.declared.message.Change.{Change}
use Rattle.rh_otp_model.specs.declared.message.Change.TheVariants as change_of
use Rattle.rh_otp_model.specs.declared.message.Message.{Message}
use Rattle.rh_otp_model.specs.declared.message.Message.TheVariants as message
use Rattle.rh_otp_model.specs.declared.message.Reply.{Reply}
use Rattle.rh_otp_model.specs.declared.message.Reply.TheVariants as reply_of
use Rattle.rh_otp_model.specs.declared.output.Event.TheVariants as event
use Rattle.rh_otp_model.specs.declared.output.Output.{Output}
use Rattle.rh_otp_model.specs.declared.output.Output.TheVariants.{Send, Tell}
use Rattle.rh_otp_model.specs.declared.process.Process.{Process}
use Rattle.rh_otp_model.specs.declared.process.Role.TheVariants as role
use Rattle.rh_otp_model.specs.declared.process.StartType.{StartType}
use Rattle.rh_otp_model.specs.declared.process.StartType.TheVariants.{Normal, Takeover, Failover}
use Rattle.rh_otp_model.specs.Own.{controls}
use Rattle.rh_otp_model.specs.Processes.{process_at}
use Rattle.rh_otp_model.specs.Rows.{keyfind, keydelete, has_row, without}
use Rattle.rh_otp_controller.specs.declared.state.Place.{Place}
use Rattle.rh_otp_controller.specs.declared.state.Place.TheVariants as place_of
use Rattle.rh_otp_controller.specs.declared.state.Starting.{Starting}
use Rattle.rh_otp_controller.specs.State.{TurnView}
use Rattle.rh_otp_controller.specs.Sending as sending
use Rattle.rh_otp_controller.specs.Ending as ending
use Rattle.rh_otp_controller.specs.Starting as starting
use Rattle.rh_otp_controller.specs.Calls as calls
use Rattle.rh_otp_controller.specs.Changes as changes
use Rattle.rh_otp_orders.proofs.Own.{IsSaid, AreSaid}

-- a turn of the node in which all that was done is so
abbrev pub Owned : Node → TurnView → Type 0
Owned n t = (t.here.node ≡ n) × AreSaid n t.out

either : (n : Node) (b : Bool) (t u : TurnView) → Owned n t → Owned n u → Owned n (cond b t u)
either n true t u g h = g
either n false t u g h = h

-- ---- Sending

does : (n : Node) (o : Output) (t : TurnView) → IsSaid n o → Owned n t → Owned n (sending.with_output o t)
does n o t own g = (g.0, All-push (IsSaid n) t.out o g.1 own)

sends : (n : Node) (to : Process) (m : Message) (t : TurnView) → Owned n t → Owned n (sending.send to m t)
sends n to m t g = does n (Send (record { from = process_at t.here role.Controller; to = to; message = m })) t g.0 g

here : (n : Node) (t : TurnView) → Owned n t → (n.0 == t.here.node.0) ≡ true
here n t g = eq-eqb n.0 t.here.node.0 (ap (λ (m : Node). m.0) (sym g.0))

replies : (n : Node) (caller : Process) (o : Outcome) (t : TurnView) → Owned n t → Owned n (sending.reply caller o t)
replies n caller o t g = sends n caller (message.Answer o) t g

replies_to : (n : Node) (caller : Option Process) (o : Outcome) (t : TurnView) → Owned n t → Owned n (sending.reply_to caller o t)
replies_to n None o t g = g
replies_to n (Some caller) o t g = replies n caller o t g

controls_it : (n : Node) (a : App) (m : Message) (t : TurnView) → Owned n t → Owned n (sending.control a m t)
controls_it n a m t g = either n (controls t.own a) _ t (sends n (process_at t.here role.DistAc) m t g) g

stops_appl : (n : Node) (a : App) (place : Option Place) (t : TurnView) → Owned n t → Owned n (sending.stop_appl a place t)
stops_appl n a (Some place_of.Here) t g = does n (Tell (event.Stopped a t.here.node)) t (here n t g) g
stops_appl n a place t g = g

-- ---- Starting

answers_start : (n : Node) (a : App) (error : Option Dep) (t : TurnView) → Owned n t → Owned n (starting.answer_start a error t)
answers_start n a error t g =
    does n (Send (record {
      from = process_at t.here (role.Starter a);
      to = process_at t.here role.Controller;
      message = message.ApplicationStarted a error;
    })) t g.0 g

spawned : (n : Node) (a : App) (kind : StartType) (lacks : Option Dep) (t : TurnView) → Owned n t
    → Owned n (starting.spawned a kind lacks t)
spawned n a kind None t g =
    let over : TurnView = starting.forget_end a t in
    answers_start n a None (sending.tell (event.Started a t.here.node kind) over)
    (does n (Tell (event.Started a t.here.node kind)) over (here n t g) g)
spawned n a kind (Some d) t g = answers_start n a (Some d) t g

spawns : (n : Node) (a : App) (kind : StartType) (t : TurnView) → Owned n t → Owned n (starting.spawn_starter a kind t)
unfolding starting.spawn_starter
spawns n a kind t g = spawned n a kind (starting.lacks_running t a) t g

replies_each : (n : Node) (a : App) (o : Outcome) (rows : List (App × Option Process)) (t : TurnView) → Owned n t
    → Owned n (starting.reply_each a o rows t)
replies_each n a o [] t g = g
replies_each n a o (row ∷ rows) t g =
    replies_each n a o rows (cond (row.0.0 == a.0) (sending.reply_to row.1 o t) t)
    (either n (row.0.0 == a.0) _ t (replies_to n row.1 o t g) g)

replies_all : (n : Node) (a : App) (o : Outcome) (t : TurnView) → Owned n t → Owned n (starting.reply_to_requester a o t)
unfolding starting.reply_to_requester
replies_all n a o t g = replies_each n a o t.state.start_req t g

started : (n : Node) (a : App) (place : Place) (error : Option Dep) (row : Option Starting) (t : TurnView) → Owned n t
    → Owned n (starting.started_by a place error row t)
started n a place error None t g = g
started n a place_of.Here None (Some row) t g = controls_it n a (message.Run a None) (starting.end_starting a t) g
started n a place None (Some row) t g = g
started n a place (Some d) (Some row) t g = controls_it n a (message.Run a (Some d)) (starting.end_starting a t) g

has_started : (n : Node) (a : App) (place : Place) (error : Option Dep) (t : TurnView) → Owned n t
    → Owned n (starting.has_started a place error t)
unfolding starting.has_started
has_started n a place error t g =
    let told : TurnView = starting.reply_to_requester a (starting.outcome_of error) t in
    started n a place error (keyfind a told.state.starting) told (replies_all n a (starting.outcome_of error) t g)

replied : (n : Node) (a : App) (what : Reply) (row : Option Starting) (t : TurnView) → Owned n t → Owned n (starting.replied a what row t)
replied n a what None t g = g
replied n a reply_of.StartIt (Some row) t g = spawns n a row.kind t g
replied n a (reply_of.Started m) (Some row) t g = has_started n a (place_of.At m) None t g
replied n a reply_of.NotStarted (Some row) t g = replies_all n a outcome.Done t g
replied n a (reply_of.Takeover m) (Some row) t g =
    spawns n a (Takeover m) (starting.add_starting a row.restart (Takeover m) (starting.end_starting a t)) g
replied n a (reply_of.Error fault) (Some row) t g =
    let told : TurnView = starting.reply_to_requester a (outcome.Failed fault) t in
    let so : Owned n told = replies_all n a (outcome.Failed fault) t g in
    either n (starting.is_permanent row.restart) (record told { state = record told.state { is_ending = true } })
    (starting.end_starting a told)
    so so

start_replied : (n : Node) (a : App) (what : Reply) (t : TurnView) → Owned n t → Owned n (starting.start_reply a what t)
unfolding starting.start_reply
start_replied n a what t g = replied n a what (keyfind a t.state.starting) t g

-- ---- Calls

requests : (n : Node) (a : App) (restart : Restart) (caller : Process) (t : TurnView) → Owned n t
    → Owned n (calls.request_start a restart caller t)
requests n a restart caller t g =
    either n (controls t.own a) (sending.control a (message.StartRequest a) t) (starting.spawn_starter a Normal t)
    (controls_it n a (message.StartRequest a) t g) (spawns n a Normal t g)

starts_unless : (n : Node) (a : App) (restart : Restart) (caller : Process) (lacks : Option Dep) (t : TurnView) → Owned n t
    → Owned n (calls.start_unless a restart caller lacks t)
starts_unless n a restart caller (Some d) t g = replies n caller (outcome.Failed (NeedsStarted d)) t g
starts_unless n a restart caller None t g =
    let waiting : TurnView = record t { state = record t.state { start_p_false = (a, restart) ∷ t.state.start_p_false } } in
    either n (not (controls t.own a) && calls.is_forbidden (keyfind a t.state.permissions)) (sending.reply caller outcome.Done waiting) _
    (replies n caller outcome.Done waiting g) (requests n a restart caller t g)

starts : (n : Node) (a : App) (restart : Restart) (caller : Process) (t : TurnView) → Owned n t → Owned n (calls.start a restart caller t)
unfolding calls.start
starts n a restart caller t g =
    either n (has_row a t.state.start_req) (starting.add_request a (Some caller) t) _ g
    (either n (has_row a t.state.running) _ _ (replies n caller (outcome.Failed (AlreadyStarted a)) t g)
    (starts_unless n a restart caller (starting.lacks_started t a) t g))

stops_running : (n : Node) (a : App) (t : TurnView) → Owned n t → Owned n (calls.stop_running a t)
stops_running n a t g = stops_appl n a (keyfind a t.state.running) t g

stops : (n : Node) (a : App) (caller : Process) (t : TurnView) → Owned n t → Owned n (calls.stop a caller t)
unfolding calls.stop
stops n a caller t g =
    let told : TurnView = calls.stop_running a t in
    let gone : TurnView = record told { state = record told.state { started = keydelete a told.state.started } } in
    either n (has_row a t.state.running || has_row a t.state.started)
    (sending.reply caller outcome.Done (sending.control a (message.Stopped a) gone)) _
    (replies n caller outcome.Done (sending.control a (message.Stopped a) gone)
    (controls_it n a (message.Stopped a) gone (stops_running n a t g)))
    (replies n caller (outcome.Failed (NotStarted a)) t g)

permits_waiting : (n : Node) (a : App) (allow : Bool) (caller : Process) (waits : Option (Option Restart)) (t : TurnView) → Owned n t
    → Owned n (calls.permit_waiting a allow caller waits t)
permits_waiting n a true caller (Some restart) t g = spawns n a Normal t g
permits_waiting n a allow caller waits t g = replies n caller outcome.Done t g

permits_started : (n : Node) (a : App) (allow : Bool) (caller : Process) (restart : Option Restart) (t : TurnView) → Owned n t
    → Owned n (calls.permit_started a allow caller restart t)
permits_started n a true caller restart t g =
    permits_waiting n a true caller (Some restart) (record t { state = record t.state { started = keydelete a t.state.started } }) g
permits_started n a false caller restart t g = permits_waiting n a false caller (Some restart) t g

permits_idle : (n : Node) (a : App) (allow : Bool) (caller : Process) (row : Option (Option Restart)) (t : TurnView) → Owned n t
    → Owned n (calls.permit_idle a allow caller row t)
permits_idle n a allow caller (Some restart) t g = permits_started n a allow caller restart t g
permits_idle n a allow caller None t g =
    permits_waiting n a allow caller (option_map Some (keyfind a t.state.start_p_false))
    (record t { state = record t.state { start_p_false = keydelete a t.state.start_p_false } }) g

permits : (n : Node) (a : App) (allow : Bool) (caller : Process) (t : TurnView) → Owned n t → Owned n (calls.permit a allow caller t)
unfolding calls.permit
permits n a allow caller t g =
    either n (controls t.own a) (calls.permit_distributed a allow caller t) _
    (replies n caller (cond (has_row a t.state.started || has_row a t.state.starting) outcome.IsStarted outcome.IsOnlyLoaded)
    (calls.update_permissions a allow t) g)
    (either n (has_row a t.state.running) (sending.reply caller outcome.Done (cond allow t (calls.stop_running a t))) _
    (replies n caller outcome.Done (cond allow t (calls.stop_running a t))
    (either n allow t (calls.stop_running a t) g (stops_running n a t g)))
    (permits_idle n a allow caller (keyfind a t.state.started) (calls.update_permissions a allow t) g))

tops_end : (n : Node) (a : App) (is_normal : Bool) (caller : Process) (t : TurnView) → Owned n t
    → Owned n (calls.top_ends a is_normal caller t)
unfolding calls.top_ends
tops_end n a is_normal caller t g =
    let told : TurnView = sending.reply caller outcome.Done t in
    let so : Owned n told = replies n caller outcome.Done t g in
    let over : TurnView = record told {
      state = record told.state {
        running = keydelete a told.state.running;
        ended = a ∷ without a told.state.ended;
      };
    } in
    let gone : TurnView = sending.tell (event.Stopped a t.here.node) over in
    let is_gone : Owned n gone = does n (Tell (event.Stopped a t.here.node)) over (here n t g) so in
    let last : TurnView = sending.control a (message.Stopped a) gone in
    either n (calls.is_here (keyfind a t.state.running))
    (record last { state = record last.state { is_ending = calls.ends_with (keyfind a last.state.started) is_normal } }) _
    (controls_it n a (message.Stopped a) gone is_gone)
    (replies n caller (outcome.Failed NotRunning) t g)

-- ---- Changes

do_starts : (n : Node) (a : App) (restart : Option Restart) (kind : StartType) (t : TurnView) → Owned n t
    → Owned n (changes.do_start a restart kind t)
unfolding changes.do_start
do_starts n a restart kind t g =
    let told : TurnView = starting.spawn_starter a kind t in
    let so : Owned n told = spawns n a kind t g in
    let added : TurnView = starting.add_starting a (changes.kept_restart restart (keyfind a t.state.started)) kind told in
    either n (has_row a t.state.start_req) t (starting.add_request a None (cond (has_row a told.state.starting) told added)) g
    (either n (has_row a told.state.starting) told added so so)

starts_here : (n : Node) (a : App) (what : Change) (t : TurnView) → Owned n t → Owned n (changes.start_here a what t)
starts_here n a (change_of.Failover m) t g = do_starts n a None (cond (has_phases t.cluster a) (Failover m) Normal) t g
starts_here n a (change_of.Takeover m restart) t g = do_starts n a restart (Takeover m) t g
starts_here n a what t g = do_starts n a None Normal t g

changes_running : (n : Node) (a : App) (what : Change) (place : Place) (t : TurnView) → Owned n t
    → Owned n (changes.change_running a what place t)
changes_running n a (change_of.Started m) place t g = stops_appl n a (Some place) t g
changes_running n a change_of.StopIt place t g =
    controls_it n a (message.NotRun a) (sending.stop_appl a (Some place) t) (stops_appl n a (Some place) t g)
changes_running n a change_of.NotRunning place t g = g
changes_running n a what place_of.Here t g = controls_it n a (message.Run a None) t g
changes_running n a what place t g = starts_here n a what t g

changes_idle : (n : Node) (a : App) (what : Change) (t : TurnView) → Owned n t → Owned n (changes.change_idle a what t)
changes_idle n a (change_of.Started m) t g = g
changes_idle n a change_of.StartIt t g =
    let told : TurnView = changes.do_start a None Normal t in
    let so : Owned n told = do_starts n a None Normal t g in
    either n (has_row a t.state.running) t _ g
    (either n (has_row a t.state.started) (record told { state = record told.state { started = keydelete a told.state.started } }) _ so
    (either n (has_row a t.state.starting) told t so g))
changes_idle n a what t g = g

changed : (n : Node) (a : App) (what : Change) (place : Option Place) (t : TurnView) → Owned n t → Owned n (changes.changed a what place t)
changed n a what (Some place) t g =
    either n (has_row a t.state.started) _ _ (changes_running n a what place t g) (changes_idle n a what t g)
changed n a what None t g = changes_idle n a what t g

changes_it : (n : Node) (a : App) (what : Change) (t : TurnView) → Owned n t → Owned n (changes.change a what t)
unfolding changes.change
changes_it n a what t g = changed n a what (keyfind a t.state.running) t g

handles : (n : Node) (m : Message) (t : TurnView) → Owned n t → Owned n (changes.handled m t)
handles n (message.Start a restart caller) t g = starts n a restart caller t g
handles n (message.Stop a caller) t g = stops n a caller t g
handles n (message.Permit a allow caller) t g = permits n a allow caller t g
handles n (message.TopEnds a is_normal caller) t g = tops_end n a is_normal caller t g
handles n (message.ApplicationStarted a error) t g = has_started n a place_of.Here error t g
handles n (message.Reply a what) t g = start_replied n a what t g
handles n (message.Change a what) t g = changes_it n a what t g
handles n m t g = g

pub receives : (n : Node) (m : Message) (t : TurnView) → Owned n t → Owned n (changes.received m t)
unfolding changes.received
receives n m t g = either n t.state.is_ending t _ g (handles n m t g)

-- ---- Ending

stops_each : (n : Node) (rows : List (App × Place)) (t : TurnView) → Owned n t → Owned n (ending.stop_each rows t)
stops_each n [] t g = g
stops_each n (row ∷ rows) t g = stops_each n rows (sending.stop_appl row.0 (Some row.1) t) (stops_appl n row.0 (Some row.1) t g)

pub terminates : (n : Node) (t : TurnView) → Owned n t → Owned n (ending.terminated t)
terminates n t g = stops_each n t.state.running t g
