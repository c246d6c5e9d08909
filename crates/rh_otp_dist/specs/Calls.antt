-- Calls of a dist_ac (dist_ac, handle_call/3).
use Rattle.std.specs.Prelude.{List, [], ◌∷◌, ◌||◌, ◌&&◌, Bool, true, false, Some, filter, if◌then◌else◌}
use Rattle.rh_model.specs.declared.node.App.{App}
use Rattle.rh_model.specs.declared.node.Node.{Node}
use Rattle.rh_model.specs.declared.settings.Restart.{Restart}
use Rattle.rh_otp_model.specs.declared.fault.Fault.TheVariants.{RunsLocally, RunsNowhere}
use Rattle.rh_otp_model.specs.declared.fault.Outcome.TheVariants.{Done, Failed}
use Rattle.rh_otp_model.specs.declared.message.Change.TheVariants as change
use Rattle.rh_otp_model.specs.declared.message.Message.TheVariants as message
use Rattle.rh_otp_model.specs.declared.output.Output.TheVariants.{Send}
use Rattle.rh_otp_model.specs.declared.process.Process.{Process}
use Rattle.rh_otp_dist.specs.declared.attempt.AskedBy.TheVariants as asked
use Rattle.rh_otp_dist.specs.declared.state.Standing.{Standing}
use Rattle.rh_otp_dist.specs.declared.state.Standing.TheVariants as standing
use Rattle.rh_otp_dist.specs.State.{TurnView, DistView, with_state, standing_of, with_permission, permitted, is_among}
use Rattle.rh_otp_dist.specs.Views.{PermitCallView}
use Rattle.rh_otp_dist.specs.Sending.{with_output, me, send_all, to_controller, answer}
use Rattle.rh_otp_dist.specs.Choosing.{backwards, start_appl}
use Rattle.rh_otp_dist.specs.Told.{set_standing, is_local, with_waits}
use Rattle.rh_otp_dist.specs.Down.{stop_waiting}

-- from the node at which it runs
abbrev pub take_over_from : App → Restart → Process → Standing → TurnView → TurnView
take_over_from a restart caller (standing.Distributed n) t =
    let told : TurnView = set_standing a standing.Takeover (to_controller (message.Change a (change.Takeover n (Some restart))) t) in
    with_state (record told.state { t_reqs = (a, caller) ∷ told.state.t_reqs }) told
take_over_from a restart caller standing.Local t = answer caller (Failed (RunsLocally a)) t
take_over_from a restart caller s t = answer caller (Failed (RunsNowhere a)) t

-- handle_call({takeover_application, ..})
unfoldable pub take_over : App → Restart → Process → TurnView → TurnView
take_over a restart caller t = take_over_from a restart caller (standing_of t.state a) t

-- the parts of the state that a call of permit restores
abbrev pub before_permit : App → Process → DistView → PermitCallView
before_permit a caller d = record {
  caller = caller;
  standing = standing_of d a;
  remote_started = d.remote_started;
  started = d.started;
  tmp_locals = d.tmp_locals;
  tmp_weights = d.tmp_weights;
}

-- of one that runs nowhere that is known, or elsewhere, nothing is to be done
abbrev pub is_away : Standing → Bool
is_away standing.Undefined = true
is_away (standing.Distributed n) = true
is_away s = false

-- of one that runs here, and is forbidden: another node is to start it, or it is stopped
abbrev pub forbid_here : App → Process → List Node → TurnView → TurnView
forbid_here a caller [] t = stop_waiting a caller t
forbid_here a caller (n ∷ nodes) t = with_waits ((a, record { caller = caller; nodes = n ∷ nodes }) ∷ t.state.p_reqs) t

-- behind the permission, by how the application stands
abbrev pub permit_by : App → Bool → Bool → Process → Standing → TurnView → TurnView
permit_by a allow only_loaded caller s t =
    if only_loaded || (allow && is_local s) then answer caller Done t
    else if allow then start_appl a asked.Nobody (Some (before_permit a caller t.state)) t
    else if is_away s then answer caller Done t
    else forbid_here a caller (permitted t.state a) t

-- the permission is set, and told to all nodes of the application's list
abbrev pub tell_permission : App → Bool → TurnView → TurnView
tell_permission a allow t =
    let told : TurnView = with_state (with_permission t.here.node a allow t.state) t in
    send_all (backwards t.own a) (message.NewPermission t.here.node a allow (is_local (standing_of t.state a))) told

-- handle_call({permit_application, ..}), permit/6
unfoldable pub permit : App → Bool → Bool → Process → TurnView → TurnView
permit a allow only_loaded caller t = permit_by a allow only_loaded caller (standing_of t.state a) (tell_permission a allow t)

-- the nodes of the application's list that it knows; of one that has no list, none
abbrev pub known_nodes : App → TurnView → List Node
known_nodes a t = filter (λ n. is_among n t.state.known) (backwards t.own a)

-- handle_call({get_nodes, ..})
unfoldable pub get_nodes : App → Process → TurnView → TurnView
get_nodes a caller t = with_output (Send (record { from = me t; to = caller; message = message.Nodes (known_nodes a t) })) t
