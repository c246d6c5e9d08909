-- What a dist_ac does when a node is down (dist_ac, handle_info/2, check_waiting/6).
use Rattle.std.specs.Prelude.{ℕ, List, [], ◌∷◌, ◌+◌, ◌==◌, ◌&&◌, not, length, filter, map, reverse, replicate, slice_get, slice_set, unwrap_or, Bool, true, false, if◌then◌else◌}
use Rattle.rh_model.specs.declared.node.App.{App}
use Rattle.rh_model.specs.declared.node.Node.{Node}
use Rattle.rh_otp_model.specs.declared.message.Change.TheVariants as change
use Rattle.rh_otp_model.specs.declared.message.Message.TheVariants as message
use Rattle.rh_otp_model.specs.declared.output.Output.TheVariants.{After}
use Rattle.rh_otp_model.specs.declared.process.Process.{Process}
use Rattle.rh_otp_model.specs.Own.{EntryView}
use Rattle.rh_otp_dist.specs.declared.state.Standing.{Standing}
use Rattle.rh_otp_dist.specs.declared.state.Standing.TheVariants as standing
use Rattle.rh_otp_dist.specs.State.{TurnView, with_state, appl_of, standing_of, with_losses, may_run, without_first, without_node}
use Rattle.rh_otp_dist.specs.Views.{PermitWaitView}
use Rattle.rh_otp_dist.specs.Sending.{with_output, to_controller}
use Rattle.rh_otp_dist.specs.Choosing.{runs_at, is_node}
use Rattle.rh_otp_dist.specs.Told.{set_standing, with_waits}

-- an application that ran at the node is lost, if it may run here; of another one the controller is told that it runs nowhere
abbrev pub lose : Node → App → Standing → TurnView → TurnView
lose n a (standing.Distributed m) t =
    if not (m.0 == n.0) then t
    else if may_run t.state t.here.node a then set_standing a (standing.Failover n) t
    else set_standing a standing.Undefined (to_controller (message.Change a change.NotRunning) t)
lose n a s t = t

-- the same of each of these applications
abbrev pub lose_each : Node → List EntryView → TurnView → TurnView
lose_each n [] t = t
lose_each n (e ∷ entries) t = lose_each n entries (lose n e.app (standing_of t.state e.app) t)

-- did the application run at the node, and may it run here?
abbrev pub is_lost : Node → TurnView → App → Bool
is_lost n t a = is_node n (runs_at (standing_of t.state a)) && may_run t.state t.here.node a

-- the applications that are lost with the node, each with how long it stays lost
abbrev pub lost_with : Node → TurnView → List (App × ℕ)
lost_with n t = map (λ (e : EntryView). (e.app, e.timeout)) (filter (λ (e : EntryView). is_lost n t e.app) t.own.entries)

-- a timer is set for a loss, with its number: one more than the application was lost before
abbrev pub set_timer : App → ℕ → TurnView → TurnView
set_timer a timeout t =
    with_output (After timeout (message.RestartAppl a ((appl_of t.state a).losses + 1)))
    (with_state (with_losses a ((appl_of t.state a).losses + 1) t.state) t)

-- the same for each of these
abbrev pub time_each : List (App × ℕ) → TurnView → TurnView
time_each [] t = t
time_each (row ∷ rows) t = time_each rows (set_timer row.0 row.1 t)

-- who waited for the last of its nodes: the application is stopped
abbrev pub stop_waiting : App → Process → TurnView → TurnView
stop_waiting a caller t =
    let told : TurnView = to_controller (message.Change a change.StopIt) t in
    with_state (record told.state { s_reqs = (a, caller) ∷ told.state.s_reqs }) told

-- the nodes that one still waits for: check_waiting/6 swaps two arguments behind each, so every second one keeps the node
abbrev pub still_awaited : Bool → Node → List Node → List Node
still_awaited true n nodes = without_node n nodes
still_awaited false n nodes = nodes

-- is there none?
abbrev pub is_none_left : List Node → Bool
is_none_left [] = true
is_none_left (n ∷ nodes) = false

-- check_waiting/6, of one that waits: with none of its nodes left, its application is stopped
abbrev pub stop_row : Node → Bool → App × PermitWaitView → TurnView → TurnView
stop_row n is_even row t = if is_none_left (still_awaited is_even n row.1.nodes) then stop_waiting row.0 row.1.caller t else t

-- else it is kept, with the nodes that are left
abbrev pub keep_row : Node → Bool → App × PermitWaitView → List (App × PermitWaitView) → List (App × PermitWaitView)
keep_row n is_even row kept =
    if is_none_left (still_awaited is_even n row.1.nodes) then kept
    else (row.0, record row.1 { nodes = still_awaited is_even n row.1.nodes }) ∷ kept

-- check_waiting/6, of these, with those that are kept so far
abbrev pub check_each : Node → Bool → List (App × PermitWaitView) → List (App × PermitWaitView) → TurnView → TurnView
check_each n is_even kept [] t = with_waits kept t
check_each n is_even kept (row ∷ rows) t = check_each n (not is_even) (keep_row n is_even row kept) rows (stop_row n is_even row t)

-- check_waiting/6, of all that wait
unfoldable pub check_waiting : Node → TurnView → TurnView
check_waiting n t = check_each n true [] t.state.p_reqs t

-- without the applications that ran at the node
abbrev pub without_rows_at : Node → List (App × Node) → List (App × Node)
without_rows_at n rows = filter (λ row. not (row.1.0 == n.0)) rows

-- as many, none of which is set
abbrev pub none_of : List Bool → List Bool
none_of flags = replicate (length flags) false

-- what is known of a node that is down: nothing
abbrev pub forget_node : Node → TurnView → TurnView
forget_node n t = with_state (record t.state {
  may = slice_set t.state.may n.0 (none_of (unwrap_or (slice_get t.state.may n.0) []));
  remote_started = without_rows_at n t.state.remote_started;
}) t

-- the node is known no more
abbrev pub unknow : Node → TurnView → TurnView
unknow n t = with_state (record t.state { known = without_first n t.state.known }) t

-- handle_info({nodedown, ..}): the timers of those that are lost are set from the last one
unfoldable pub node_down : Node → TurnView → TurnView
node_down n t =
    time_each (reverse (lost_with n t)) (unknow n (check_waiting n (forget_node n (lose_each n t.own.entries t))))
