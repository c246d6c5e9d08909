-- Calls that the law is of: of two nodes, both of which have started it, the first one runs a distributed application, and an operator has
-- the second one take it over; where the first one is to take it over, that is refused.
use Rattle.std.proofs.Common.{◌≡◌, ◌==◌, ◌||◌, true, List, [], ◌∷◌, Option, Some, None, is_some, unwrap_or, refl, sym, ap, ◌∙◌}
use Rattle.std.proofs.lemmas.Bool.{false≢true}
use Rattle.rh_model.specs.declared.node.Node.{Node}
use Rattle.rh_model.specs.declared.settings.Restart.TheVariants.{Permanent}
use Rattle.rh_otp_model.specs.declared.fault.Fault.TheVariants.{RunsLocally}
use Rattle.rh_otp_model.specs.declared.fault.Outcome.TheVariants.{Done, Failed}
use Rattle.rh_otp_model.specs.Own.{controls}
use Rattle.rh_otp_model.specs.Rows.{keyfind}
use Rattle.rh_otp_controller.specs.declared.state.Place.TheVariants as place_of
use Rattle.rh_otp_controller.specs.Calls.{start as controller_start, stop as controller_stop, permit as controller_permit, top_ends as controller_top_ends}
use Rattle.rh_otp_controller.specs.Changes.{do_start as controller_do_start, change as controller_change, received as controller_received}
use Rattle.rh_otp_controller.specs.Starting.{spawn_starter as controller_spawn_starter, reply_to_requester as controller_reply_to_requester, has_started as controller_has_started, start_reply as controller_start_reply}
use Rattle.rh_otp_dist.specs.Attempts.{finish as dist_finish, runs_elsewhere as dist_runs_elsewhere}
use Rattle.rh_otp_dist.specs.Calls.{take_over as dist_take_over, permit as dist_permit, get_nodes as dist_get_nodes}
use Rattle.rh_otp_dist.specs.Choosing.{start_here as dist_start_here, is_to_start as dist_is_to_start, find_start_node as dist_find_start_node, start_distributed as dist_start_distributed, start_appl as dist_start_appl}
use Rattle.rh_otp_dist.specs.Down.{check_waiting as dist_check_waiting, node_down as dist_node_down}
use Rattle.rh_otp_dist.specs.Outside.{introduced_to as dist_introduced_to}
use Rattle.rh_otp_dist.specs.Received.{handle_next as dist_handle_next}
use Rattle.rh_otp_dist.specs.Sending.{del_t_reqs as dist_del_t_reqs}
use Rattle.rh_otp_dist.specs.Told.{run as dist_run, answer_ends as dist_answer_ends, not_run as dist_not_run, stopped as dist_stopped, new_node as dist_new_node, answer_permits as dist_answer_permits, app_started as dist_app_started, app_stopped as dist_app_stopped, weight_told as dist_weight_told, restart as dist_restart, new_permission as dist_new_permission}
use Rattle.rh_otp_net.specs.Links.{to_connect as net_to_connect}
use Rattle.rh_otp_node.specs.Turns.{controlled_by as node_controlled_by, terminated_by as node_terminated_by, handled_by as node_handled_by, introduced_by as node_introduced_by}
use Rattle.rh_otp_system.specs.Calling.{lock_call as system_lock_call, wait_for_lock as system_wait_for_lock, behind_sync as system_behind_sync, go_on_call as system_go_on_call, call_received as system_call_received}
use Rattle.rh_otp_system.specs.Connecting.{connect as system_connect}
use Rattle.rh_otp_system.specs.Delivering.{delivered as system_delivered, slowed as system_slowed}
use Rattle.rh_otp_system.specs.Doing.{waited_for as system_waited_for, booted as system_booted, called as system_called, fired_next as system_fired_next, ticked as system_ticked, is_ticked as system_is_ticked}
use Rattle.rh_otp_system.specs.Ending.{down_told as system_down_told, taken_down as system_taken_down, ended as system_ended, stopped as system_stopped}
use Rattle.rh_otp_system.specs.Joining.{join as system_join, has_seen as system_has_seen, boot_next as system_boot_next}
use Rattle.rh_otp_system.specs.Moves.{made as system_made}
use Rattle.rh_otp_system.specs.Resting.{rested as system_rested, forgotten as system_forgotten}
use Rattle.rh_otp_system.specs.Sending.{told as system_told, after as system_after}
use Rattle.rh_otp_system.specs.Working.{take_lock as system_take_lock, gone as system_gone, handled as system_handled, work as system_work, mailed as system_mailed}
use Rattle.rh_otp_dist.specs.declared.state.Standing.TheVariants as standing
use Rattle.rh_otp_dist.specs.State.{DistView, beginning, standing_of, is_among}
use Rattle.rh_otp_net.specs.Links.{are_linked}
use Rattle.rh_otp_system.specs.declared.calls.Ask.TheVariants as ask
use Rattle.rh_otp_system.specs.declared.calls.Call.{Call}
use Rattle.rh_otp_system.specs.declared.calls.Stage.{Stage}
use Rattle.rh_otp_system.specs.declared.calls.Stage.TheVariants as stage
use Rattle.rh_otp_system.specs.Doing.{called}
use Rattle.rh_otp_system.specs.State.{SystemView, node_at, own_at}
use Rattle.rh_otp_laws.specs.Acting.{IsReached}
use Rattle.rh_otp_crashes.specs.Crashes.{AreAtRest}
use Rattle.rh_otp_crashes.specs.Failovers.{SeesAll}
use Rattle.rh_otp_stops.proofs.Rows.{n1, n2, d1, quiet, dist_of, IsThere, NoMore, is_it, of_both, both_up, second_there, no_more}
use Rattle.rh_otp_stops.proofs.Rows as stopped
use Rattle.rh_otp_starts.specs.Starts.{IsOverBefore}
use Rattle.rh_otp_takeovers.specs.Takeovers.{IsKnownElsewhere}

-- ---- what the prover computes of it

-- the first node runs it, and the second one, which has started it too, knows and sees that one
record Runs (s : SystemView) : Type 0 where
  over : IsOverBefore s
  listed : controls (own_at s n2) d1 ≡ true
  runs : keyfind d1 (node_at s n1).controller.running ≡ Some place_of.Here
  local : standing_of (dist_of s n1) d1 ≡ standing.Local
  elsewhere : standing_of (dist_of s n2) d1 ≡ standing.Distributed n1
  takeovers : (dist_of s n2).t_reqs ≡ []
  knows : is_among n1 (dist_of s n2).known ≡ true
  sees : are_linked n2 n1 s.links ≡ true

-- so it is behind both boots
runs : Runs both_up
unfolding controller_start controller_stop controller_permit controller_top_ends controller_do_start controller_change controller_received controller_spawn_starter controller_reply_to_requester controller_has_started controller_start_reply dist_finish dist_runs_elsewhere dist_take_over dist_permit dist_get_nodes dist_start_here dist_is_to_start dist_find_start_node dist_start_distributed dist_start_appl dist_check_waiting dist_node_down dist_introduced_to dist_handle_next dist_del_t_reqs dist_run dist_answer_ends dist_not_run dist_stopped dist_new_node dist_answer_permits dist_app_started dist_app_stopped dist_weight_told dist_restart dist_new_permission net_to_connect node_controlled_by node_terminated_by node_handled_by node_introduced_by system_lock_call system_wait_for_lock system_behind_sync system_go_on_call system_call_received system_connect system_delivered system_slowed system_waited_for system_booted system_called system_fired_next system_ticked system_is_ticked system_down_told system_taken_down system_ended system_stopped system_join system_has_seen system_boot_next system_made system_rested system_forgotten system_told system_after system_take_lock system_gone system_handled system_work system_mailed
runs = record {
  over = refl;
  listed = refl;
  runs = refl;
  local = refl;
  elsewhere = refl;
  takeovers = refl;
  knows = refl;
  sees = refl;
}

-- what comes of a takeover by the second node, in one order
abbrev taken_over : SystemView
taken_over = quiet (called (ask.Takeover Permanent) n2 d1 both_up)

-- and of one by the first, where it runs
abbrev refused : SystemView
refused = quiet (called (ask.Takeover Permanent) n1 d1 both_up)

-- the first call's stage
abbrev pub first_stage : List Call → Stage
first_stage [] = stage.Controller
first_stage (call ∷ calls) = call.stage

-- it has moved, and both calls were answered
record Moved : Type 0 where
  here_now : keyfind d1 (node_at taken_over n2).controller.running ≡ Some place_of.Here
  there_no_more : keyfind d1 (node_at taken_over n1).controller.running ≡ Some (place_of.At n2)
  answered : first_stage taken_over.calls ≡ stage.Done Done
  free_again : taken_over.locks ≡ []
  answered_too : first_stage refused.calls ≡ stage.Done (Failed (RunsLocally d1))

-- so it is behind these calls
moved : Moved
unfolding controller_start controller_stop controller_permit controller_top_ends controller_do_start controller_change controller_received controller_spawn_starter controller_reply_to_requester controller_has_started controller_start_reply dist_finish dist_runs_elsewhere dist_take_over dist_permit dist_get_nodes dist_start_here dist_is_to_start dist_find_start_node dist_start_distributed dist_start_appl dist_check_waiting dist_node_down dist_introduced_to dist_handle_next dist_del_t_reqs dist_run dist_answer_ends dist_not_run dist_stopped dist_new_node dist_answer_permits dist_app_started dist_app_stopped dist_weight_told dist_restart dist_new_permission net_to_connect node_controlled_by node_terminated_by node_handled_by node_introduced_by system_lock_call system_wait_for_lock system_behind_sync system_go_on_call system_call_received system_connect system_delivered system_slowed system_waited_for system_booted system_called system_fired_next system_ticked system_is_ticked system_down_told system_taken_down system_ended system_stopped system_join system_has_seen system_boot_next system_made system_rested system_forgotten system_told system_after system_take_lock system_gone system_handled system_work system_mailed
moved = record { here_now = refl; there_no_more = refl; answered = refl; free_again = refl; answered_too = refl }

-- ---- so the law is of it

-- where there is a dist_ac, it is the one
has_it : (o : Option DistView) (d : DistView) → is_some o ≡ true → o ≡ Some (unwrap_or o d)
has_it None d is = absurd (false≢true is)
has_it (Some e) d is = refl

-- the second node knows it elsewhere
pub known : (s : SystemView) → IsThere n2 s → standing_of (dist_of s n2) d1 ≡ standing.Distributed n1 → IsKnownElsewhere n2 d1 s
known s there elsewhere = record {
  dist = dist_of s n2;
  has = has_it (node_at s n2).dist (beginning 0 0 n2 []) there.has;
  takes_all = there.takes_all;
  at = n1;
  runs = elsewhere;
}

-- nobody waits there, and it sees the first one
pub sees_all : (s : SystemView) → IsThere n2 s → (dist_of s n2).t_reqs ≡ [] → are_linked n2 n1 s.links ≡ true → NoMore s → SeesAll n2 s
sees_all s there nobody sees none = record {
  takeovers = λ d has. ap (λ (x : DistView). x.t_reqs) (sym (is_it s n2 d there has)) ∙ nobody;
  sees = λ d has m among alive. of_both (λ (k : Node). (n2.0 == k.0 || are_linked n2 k s.links) ≡ true) s none sees refl m.0 alive;
}

-- There are such calls: a takeover by which the application moves, and one that is refused.
record Row : Type 0 where
  is_reached : IsReached both_up
  is_at_rest : AreAtRest both_up
  locks : both_up.locks ≡ []
  runs : Runs both_up
  known : IsKnownElsewhere n2 d1 both_up
  sees_all : SeesAll n2 both_up
  moved : Moved

-- and the law is of it
row : Row
unfolding controller_start controller_stop controller_permit controller_top_ends controller_do_start controller_change controller_received controller_spawn_starter controller_reply_to_requester controller_has_started controller_start_reply dist_finish dist_runs_elsewhere dist_take_over dist_permit dist_get_nodes dist_start_here dist_is_to_start dist_find_start_node dist_start_distributed dist_start_appl dist_check_waiting dist_node_down dist_introduced_to dist_handle_next dist_del_t_reqs dist_run dist_answer_ends dist_not_run dist_stopped dist_new_node dist_answer_permits dist_app_started dist_app_stopped dist_weight_told dist_restart dist_new_permission net_to_connect node_controlled_by node_terminated_by node_handled_by node_introduced_by system_lock_call system_wait_for_lock system_behind_sync system_go_on_call system_call_received system_connect system_delivered system_slowed system_waited_for system_booted system_called system_fired_next system_ticked system_is_ticked system_down_told system_taken_down system_ended system_stopped system_join system_has_seen system_boot_next system_made system_rested system_forgotten system_told system_after system_take_lock system_gone system_handled system_work system_mailed
row = record {
  is_reached = stopped.row.is_reached;
  is_at_rest = stopped.row.is_at_rest;
  locks = refl;
  runs = runs;
  known = known both_up second_there runs.elsewhere;
  sees_all = sees_all both_up second_there runs.takeovers runs.sees no_more;
  moved = moved;
}
