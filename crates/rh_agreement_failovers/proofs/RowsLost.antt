-- Behind the three boots the first node crashes, and with it the application is lost, on both sides.
use Rattle.std.proofs.Common.{◌≡◌, ◌<◌, ◌∙◌, ℕ, zero, suc, true, None, [], ◌∷◌, refl, sym, ap, subst, arith}
use Rattle.rh_model.specs.ClusterView.{app_numbered}
use Rattle.rh_model.specs.declared.node.App.{App}
use Rattle.rh_rules.specs.declared.event.Event.TheVariants as event
use Rattle.rh_rules.specs.declared.pick.Pick.TheVariants.{First}
use Rattle.rh_rules.specs.Marking.{mark_all, with_mark}
use Rattle.rh_rules.specs.Moves.{local_moves, placements, takeovers, can_start, calls_away}
use Rattle.rh_rules.specs.NodesEnd.{timeout_of, cleared, lost_if_ran, all_lost, ended}
use Rattle.rh_rules.specs.NodesStart.{all_alive, is_ready, come_up, come_up_if_ready, ready_come_up}
use Rattle.rh_rules.specs.Placing.{deps_run, is_operational, candidates, best}
use Rattle.rh_rules.specs.Refusals.{refused}
use Rattle.rh_rules.specs.Settling.{next_moves, moved_by, all_moved}
use Rattle.rh_rules.specs.Steps.{followed, next}
use Rattle.rh_calls.specs.declared.call.Call.TheVariants as call
use Rattle.rh_state.specs.declared.status.Mode.TheVariants as mode
use Rattle.rh_state.specs.declared.status.Standing.TheVariants.{Quiet, Running, Lost}
use Rattle.rh_state.specs.declared.status.Timer.TheVariants.{Failover}
use Rattle.rh_state.specs.First.{configured}
use Rattle.rh_state.specs.Numbers.{nodes_of, apps_of}
use Rattle.rh_state.specs.StateView.{StateView, standing_of}
use Rattle.rh_step.specs.Runs.{step}
use Rattle.rh_trail.specs.Lone.{Served, served, with_event}
use Rattle.rh_trail.specs.SimView.{SimView, state_of}
use Rattle.rh_otp_sim.specs.Acting.{acted, acted_at_once, is_acted, is_quiet_at_once}
use Rattle.rh_otp_sim.specs.Calls.{made_by}
use Rattle.rh_otp_sim.specs.Sim.{LiveSimView, net_in}
use Rattle.rh_otp_sim.specs.Stepping.{ends_with}
use Rattle.rh_agreement.specs.Telling.{GoTogether}
use Rattle.rh_agreement.specs.Laws.{HasRoom}
use Rattle.rh_agreement.specs.Resting.{AreBothAtRest, StartsNothingAtOnce}
use Rattle.rh_agreement.proofs.Peace.{crashes_alike}
use Rattle.rh_agreement.proofs.Stepping.{manual}
use Rattle.rh_agreement_calls.proofs.Started.{running_not_quiet}
use Rattle.rh_otp_controller.specs.Calls.{start as controller_start, stop as controller_stop, permit as controller_permit, top_ends as controller_top_ends}
use Rattle.rh_otp_controller.specs.Changes.{do_start as controller_do_start, change as controller_change, received as controller_received}
use Rattle.rh_otp_controller.specs.Starting.{spawn_starter as controller_spawn_starter, reply_to_requester as controller_reply_to_requester, has_started as controller_has_started, start_reply as controller_start_reply}
use Rattle.rh_otp_dist.specs.Attempts.{finish as dist_finish, runs_elsewhere as dist_runs_elsewhere}
use Rattle.rh_otp_dist.specs.Calls.{take_over as dist_take_over, permit as dist_permit, get_nodes as dist_get_nodes}
use Rattle.rh_otp_dist.specs.Choosing.{start_here as dist_start_here, is_to_start as dist_is_to_start, find_start_node as dist_find_start_node, start_distributed as dist_start_distributed, start_appl as dist_start_appl}
use Rattle.rh_otp_dist.specs.Down.{check_waiting as dist_check_waiting, node_down as dist_node_down}
use Rattle.rh_otp_dist.specs.Outside.{introduced_to as dist_introduced_to}
use Rattle.rh_otp_dist.specs.Received.{handle_next as dist_handle_next}
use Rattle.rh_otp_dist.specs.Sending.{del_t_reqs as dist_del_t_reqs}
use Rattle.rh_otp_dist.specs.Told.{run as dist_run, answer_ends as dist_answer_ends, not_run as dist_not_run, stopped as dist_stopped, new_node as dist_new_node, answer_permits as dist_answer_permits, app_started as dist_app_started, app_stopped as dist_app_stopped, weight_told as dist_weight_told, restart as dist_restart, new_permission as dist_new_permission}
use Rattle.rh_otp_net.specs.Links.{to_connect as net_to_connect}
use Rattle.rh_otp_node.specs.Turns.{controlled_by as node_controlled_by, terminated_by as node_terminated_by, handled_by as node_handled_by, introduced_by as node_introduced_by}
use Rattle.rh_otp_system.specs.Calling.{lock_call as system_lock_call, wait_for_lock as system_wait_for_lock, behind_sync as system_behind_sync, go_on_call as system_go_on_call, call_received as system_call_received}
use Rattle.rh_otp_system.specs.Connecting.{connect as system_connect}
use Rattle.rh_otp_system.specs.Delivering.{delivered as system_delivered, slowed as system_slowed}
use Rattle.rh_otp_system.specs.Doing.{waited_for as system_waited_for, booted as system_booted, called as system_called, fired_next as system_fired_next, ticked as system_ticked, is_ticked as system_is_ticked}
use Rattle.rh_otp_system.specs.Ending.{down_told as system_down_told, taken_down as system_taken_down, ended as system_ended, stopped as system_stopped}
use Rattle.rh_otp_system.specs.Joining.{join as system_join, has_seen as system_has_seen, boot_next as system_boot_next}
use Rattle.rh_otp_system.specs.Moves.{made as system_made}
use Rattle.rh_otp_system.specs.Resting.{rested as system_rested, forgotten as system_forgotten}
use Rattle.rh_otp_system.specs.Sending.{told as system_told, after as system_after}
use Rattle.rh_otp_system.specs.Working.{take_lock as system_take_lock, gone as system_gone, handled as system_handled, work as system_work, mailed as system_mailed}
use Rattle.rh_agreement_failovers.proofs.RowsTrio.{a, web, three}
use Rattle.rh_agreement_failovers.proofs.RowsStates.{state_three}
use Rattle.rh_agreement_failovers.proofs.RowsBoots.{live_three}
use Rattle.rh_agreement_failovers.proofs.RowsUp.{sim_three, three_so, together_three, at_rest_three}

-- ---- what the crash asks

timeouts_then : (k : ℕ) → standing_of state_three (app_numbered k) ≡ Running a → 0 < timeout_of three (app_numbered k)
timeouts_then zero runs = omega arith
timeouts_then (suc k) runs = running_not_quiet a Quiet refl runs

ends_so : ends_with (net_in live_three) (event.Crash a) live_three ≡ true
unfolding controller_start controller_stop controller_permit controller_top_ends controller_do_start controller_change controller_received controller_spawn_starter controller_reply_to_requester controller_has_started controller_start_reply dist_finish dist_runs_elsewhere dist_take_over dist_permit dist_get_nodes dist_start_here dist_is_to_start dist_find_start_node dist_start_distributed dist_start_appl dist_check_waiting dist_node_down dist_introduced_to dist_handle_next dist_del_t_reqs dist_run dist_answer_ends dist_not_run dist_stopped dist_new_node dist_answer_permits dist_app_started dist_app_stopped dist_weight_told dist_restart dist_new_permission net_to_connect node_controlled_by node_terminated_by node_handled_by node_introduced_by system_lock_call system_wait_for_lock system_behind_sync system_go_on_call system_call_received system_connect system_delivered system_slowed system_waited_for system_booted system_called system_fired_next system_ticked system_is_ticked system_down_told system_taken_down system_ended system_stopped system_join system_has_seen system_boot_next system_made system_rested system_forgotten system_told system_after system_take_lock system_gone system_handled system_work system_mailed acted acted_at_once is_acted is_quiet_at_once
ends_so = refl

calls_none : (net_in live_three).last_call ≡ 0
unfolding controller_start controller_stop controller_permit controller_top_ends controller_do_start controller_change controller_received controller_spawn_starter controller_reply_to_requester controller_has_started controller_start_reply dist_finish dist_runs_elsewhere dist_take_over dist_permit dist_get_nodes dist_start_here dist_is_to_start dist_find_start_node dist_start_distributed dist_start_appl dist_check_waiting dist_node_down dist_introduced_to dist_handle_next dist_del_t_reqs dist_run dist_answer_ends dist_not_run dist_stopped dist_new_node dist_answer_permits dist_app_started dist_app_stopped dist_weight_told dist_restart dist_new_permission net_to_connect node_controlled_by node_terminated_by node_handled_by node_introduced_by system_lock_call system_wait_for_lock system_behind_sync system_go_on_call system_call_received system_connect system_delivered system_slowed system_waited_for system_booted system_called system_fired_next system_ticked system_is_ticked system_down_told system_taken_down system_ended system_stopped system_join system_has_seen system_boot_next system_made system_rested system_forgotten system_told system_after system_take_lock system_gone system_handled system_work system_mailed acted acted_at_once is_acted is_quiet_at_once
calls_none = refl

starts_nothing : StartsNothingAtOnce a sim_three live_three
starts_nothing = record {
  timeouts = subst (λ (s : StateView). (x : App) → standing_of s x ≡ Running a → 0 < timeout_of s.cluster x) (sym three_so)
      (λ x runs. timeouts_then x.0 runs);
  ends = ends_so;
}

room_three : HasRoom sim_three live_three
room_three = record { steps = omega arith; calls = omega (arith, calls_none) }

-- ---- behind it

abbrev pub sim_four : SimView
sim_four = (served sim_three (call.Step (event.Crash a))).sim

abbrev pub live_four : LiveSimView
live_four = made_by (call.Step (event.Crash a)) live_three

pub together_four : GoTogether sim_four live_four
together_four = (crashes_alike sim_three live_three a together_three room_three at_rest_three starts_nothing).1

pub at_rest_four : AreBothAtRest sim_four live_four
at_rest_four = (crashes_alike sim_three live_three a together_three room_three at_rest_three starts_nothing).2

abbrev pub state_four : StateView
state_four = record state_three {
  modes = mode.Down ∷ mode.Up ∷ mode.Up ∷ [];
  running = [] ∷ [] ∷ [] ∷ [];
  standings = Lost a ∷ [];
  timers = (5000, Failover web) ∷ [];
}

four_is : step First state_three (event.Crash a) ≡ state_four
unfolding step next followed ended cleared lost_if_ran all_lost is_ready all_alive come_up come_up_if_ready ready_come_up mark_all with_mark nodes_of apps_of
    local_moves placements takeovers can_start deps_run configured next_moves moved_by all_moved is_operational candidates best calls_away
four_is = refl

accepted : refused state_three (event.Crash a) ≡ None
unfolding refused
accepted = refl

pub sim_is : sim_four ≡ with_event sim_three (event.Crash a)
sim_is =
    ap (λ (s : Served). s.sim)
    (manual sim_three (event.Crash a) (ap (λ (s : StateView). refused s (event.Crash a)) three_so ∙ accepted) (omega arith))

pub four_so : state_of sim_four ≡ state_four
four_so = ap state_of sim_is ∙ ap (λ (s : StateView). step First s (event.Crash a)) three_so ∙ four_is
