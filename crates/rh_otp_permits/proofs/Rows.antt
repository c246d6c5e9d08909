-- Calls that the law is of: of two nodes, both of which have started it, the first one runs a distributed application, which is permitted
-- there and forbidden at the second one.
use Rattle.std.proofs.Common.{◌≡◌, ◌==◌, ◌||◌, true, false, [], refl, subst, inl, inr}
use Rattle.rh_model.specs.declared.node.Node.{Node}
use Rattle.rh_otp_model.specs.Own.{controls}
use Rattle.rh_otp_controller.specs.Calls.{start as controller_start, stop as controller_stop, permit as controller_permit, top_ends as controller_top_ends}
use Rattle.rh_otp_controller.specs.Changes.{do_start as controller_do_start, change as controller_change, received as controller_received}
use Rattle.rh_otp_controller.specs.Starting.{spawn_starter as controller_spawn_starter, reply_to_requester as controller_reply_to_requester, has_started as controller_has_started, start_reply as controller_start_reply}
use Rattle.rh_otp_dist.specs.Attempts.{finish as dist_finish, runs_elsewhere as dist_runs_elsewhere}
use Rattle.rh_otp_dist.specs.Calls.{take_over as dist_take_over, permit as dist_permit, get_nodes as dist_get_nodes}
use Rattle.rh_otp_dist.specs.Choosing.{start_here as dist_start_here, is_to_start as dist_is_to_start, find_start_node as dist_find_start_node, start_distributed as dist_start_distributed, start_appl as dist_start_appl}
use Rattle.rh_otp_dist.specs.Down.{check_waiting as dist_check_waiting, node_down as dist_node_down}
use Rattle.rh_otp_dist.specs.Outside.{introduced_to as dist_introduced_to}
use Rattle.rh_otp_dist.specs.Received.{handle_next as dist_handle_next}
use Rattle.rh_otp_dist.specs.Sending.{del_t_reqs as dist_del_t_reqs}
use Rattle.rh_otp_dist.specs.Told.{run as dist_run, answer_ends as dist_answer_ends, not_run as dist_not_run, stopped as dist_stopped, new_node as dist_new_node, answer_permits as dist_answer_permits, app_started as dist_app_started, app_stopped as dist_app_stopped, weight_told as dist_weight_told, restart as dist_restart, new_permission as dist_new_permission}
use Rattle.rh_otp_net.specs.Links.{to_connect as net_to_connect}
use Rattle.rh_otp_node.specs.Turns.{controlled_by as node_controlled_by, terminated_by as node_terminated_by, handled_by as node_handled_by, introduced_by as node_introduced_by}
use Rattle.rh_otp_system.specs.Calling.{lock_call as system_lock_call, wait_for_lock as system_wait_for_lock, behind_sync as system_behind_sync, go_on_call as system_go_on_call, call_received as system_call_received}
use Rattle.rh_otp_system.specs.Connecting.{connect as system_connect}
use Rattle.rh_otp_system.specs.Delivering.{delivered as system_delivered, slowed as system_slowed}
use Rattle.rh_otp_system.specs.Doing.{waited_for as system_waited_for, booted as system_booted, called as system_called, fired_next as system_fired_next, ticked as system_ticked, is_ticked as system_is_ticked}
use Rattle.rh_otp_system.specs.Ending.{down_told as system_down_told, taken_down as system_taken_down, ended as system_ended, stopped as system_stopped}
use Rattle.rh_otp_system.specs.Joining.{join as system_join, has_seen as system_has_seen, boot_next as system_boot_next}
use Rattle.rh_otp_system.specs.Moves.{made as system_made}
use Rattle.rh_otp_system.specs.Resting.{rested as system_rested, forgotten as system_forgotten}
use Rattle.rh_otp_system.specs.Sending.{told as system_told, after as system_after}
use Rattle.rh_otp_system.specs.Working.{take_lock as system_take_lock, gone as system_gone, handled as system_handled, work as system_work, mailed as system_mailed}
use Rattle.rh_otp_net.specs.Links.{are_linked}
use Rattle.rh_otp_system.specs.Calling.{is_synchronised_at}
use Rattle.rh_otp_system.specs.State.{SystemView, node_at, own_at}
use Rattle.rh_otp_laws.specs.Acting.{IsReached}
use Rattle.rh_otp_crashes.specs.Crashes.{AreAtRest}
use Rattle.rh_otp_stops.proofs.Rows.{n1, n2, d1, dist_of, IsThere, NoMore, is_it, of_both, both_up, first_there, second_there, no_more}
use Rattle.rh_otp_stops.proofs.Rows as stopped
use Rattle.rh_otp_starts.specs.Starts.{IsOverBefore}
use Rattle.rh_otp_permits.specs.Permits.{ChangesNothing, NotesAlone, is_begun}

-- ---- what the prover computes of it

-- both have started it, the first one runs it, and each sees the other one
record Runs (s : SystemView) : Type 0 where
  locks : s.locks ≡ []
  over : IsOverBefore s
  listed : controls (own_at s n1) d1 ≡ true
  listed_too : controls (own_at s n2) d1 ≡ true
  synchronised : is_synchronised_at n1 s ≡ true
  synchronised_too : is_synchronised_at n2 s ≡ true
  begun : is_begun d1 (node_at s n1).controller ≡ true
  begun_too : is_begun d1 (node_at s n2).controller ≡ true
  permits : ChangesNothing true d1 (node_at s n1).controller (dist_of s n1)
  forbids : ChangesNothing false d1 (node_at s n2).controller (dist_of s n2)
  sees : are_linked n1 n2 s.links ≡ true
  sees_too : are_linked n2 n1 s.links ≡ true

runs : Runs both_up
unfolding controller_start controller_stop controller_permit controller_top_ends controller_do_start controller_change controller_received controller_spawn_starter controller_reply_to_requester controller_has_started controller_start_reply dist_finish dist_runs_elsewhere dist_take_over dist_permit dist_get_nodes dist_start_here dist_is_to_start dist_find_start_node dist_start_distributed dist_start_appl dist_check_waiting dist_node_down dist_introduced_to dist_handle_next dist_del_t_reqs dist_run dist_answer_ends dist_not_run dist_stopped dist_new_node dist_answer_permits dist_app_started dist_app_stopped dist_weight_told dist_restart dist_new_permission net_to_connect node_controlled_by node_terminated_by node_handled_by node_introduced_by system_lock_call system_wait_for_lock system_behind_sync system_go_on_call system_call_received system_connect system_delivered system_slowed system_waited_for system_booted system_called system_fired_next system_ticked system_is_ticked system_down_told system_taken_down system_ended system_stopped system_join system_has_seen system_boot_next system_made system_rested system_forgotten system_told system_after system_take_lock system_gone system_handled system_work system_mailed
runs = record {
  locks = refl;
  over = refl;
  listed = refl;
  listed_too = refl;
  synchronised = refl;
  synchronised_too = refl;
  begun = refl;
  begun_too = refl;
  permits = record { quiet = inr (inl (refl, refl)); not_here = refl };
  forbids = record { quiet = inr (inr (refl, refl)); not_here = refl };
  sees = refl;
  sees_too = refl;
}

-- ---- so the law is of it

permits : (s : SystemView) → IsThere n1 s → Runs s → NoMore s → NotesAlone n1 d1 true s
permits s there so none = record {
  synchronised = so.synchronised;
  notes = λ d has is. subst (ChangesNothing true d1 (node_at s n1).controller) (is_it s n1 d there has) so.permits;
  sees = λ m among alive. of_both (λ (k : Node). (n1.0 == k.0 || are_linked n1 k s.links) ≡ true) s none refl so.sees m.0 alive;
}

forbids : (s : SystemView) → IsThere n2 s → Runs s → NoMore s → NotesAlone n2 d1 false s
forbids s there so none = record {
  synchronised = so.synchronised_too;
  notes = λ d has is. subst (ChangesNothing false d1 (node_at s n2).controller) (is_it s n2 d there has) so.forbids;
  sees = λ m among alive. of_both (λ (k : Node). (n2.0 == k.0 || are_linked n2 k s.links) ≡ true) s none so.sees_too refl m.0 alive;
}

-- There are such calls: permits of the application where it runs, and forbids of it where it is started and runs elsewhere.
record Row : Type 0 where
  is_reached : IsReached both_up
  is_at_rest : AreAtRest both_up
  runs : Runs both_up
  permits : NotesAlone n1 d1 true both_up
  forbids : NotesAlone n2 d1 false both_up

row : Row
row = record {
  is_reached = stopped.row.is_reached;
  is_at_rest = stopped.row.is_at_rest;
  runs = runs;
  permits = permits both_up first_there runs no_more;
  forbids = forbids both_up second_there runs no_more;
}
