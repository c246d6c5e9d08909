-- Both tell the same behind each of the three boots, and are at rest behind the last one.
use Rattle.std.proofs.Common.{◌≡◌, ◌<◌, ◌≤◌, ◌∙◌, ℕ, zero, suc, None, [], ◌∷◌, refl, sym, ap, subst, arith}
use Rattle.rh_model.specs.ClusterView.{numbered}
use Rattle.rh_rules.specs.declared.event.Event.TheVariants as event
use Rattle.rh_rules.specs.declared.pick.Pick.TheVariants.{First}
use Rattle.rh_rules.specs.Refusals.{refused}
use Rattle.rh_state.specs.First.{first}
use Rattle.rh_state.specs.Limits.{incarnation_limit}
use Rattle.rh_state.specs.StateView.{StateView, mode_of, incarnation_of}
use Rattle.rh_step.specs.Runs.{step}
use Rattle.rh_step.proofs.FirstStates.{first_valid}
use Rattle.rh_step.proofs.Validity.{next_valid}
use Rattle.rh_trace.specs.Validity.{IsValid}
use Rattle.rh_trail.specs.Lone.{opened, with_event}
use Rattle.rh_trail.specs.SimView.{SimView, state_of}
use Rattle.rh_otp_net.specs.declared.order.Order.TheVariants.{FirstComes}
use Rattle.rh_otp_sim.specs.Refusing.{phase_in, life_in}
use Rattle.rh_otp_sim.specs.Sim.{net_in}
use Rattle.rh_otp_sim.specs.Stepping.{cells_behind}
use Rattle.rh_otp_system.specs.Resting.{forgotten}
use Rattle.rh_agreement.specs.Telling.{TellTheSame, GoTogether, mode_of_phase}
use Rattle.rh_agreement.specs.Resting.{AreBothAtRest}
use Rattle.rh_agreement.proofs.Beginning.{begin_together}
use Rattle.rh_agreement.proofs.Rest.{rests_again, reached_again}
use Rattle.rh_agreement.proofs.Stepping.{one_more}
use Rattle.rh_otp_controller.specs.Calls.{start as controller_start, stop as controller_stop, permit as controller_permit, top_ends as controller_top_ends}
use Rattle.rh_otp_controller.specs.Changes.{do_start as controller_do_start, change as controller_change, received as controller_received}
use Rattle.rh_otp_controller.specs.Starting.{spawn_starter as controller_spawn_starter, reply_to_requester as controller_reply_to_requester, has_started as controller_has_started, start_reply as controller_start_reply}
use Rattle.rh_otp_dist.specs.Attempts.{finish as dist_finish, runs_elsewhere as dist_runs_elsewhere}
use Rattle.rh_otp_dist.specs.Calls.{take_over as dist_take_over, permit as dist_permit, get_nodes as dist_get_nodes}
use Rattle.rh_otp_dist.specs.Choosing.{start_here as dist_start_here, is_to_start as dist_is_to_start, find_start_node as dist_find_start_node, start_distributed as dist_start_distributed, start_appl as dist_start_appl}
use Rattle.rh_otp_dist.specs.Down.{check_waiting as dist_check_waiting, node_down as dist_node_down}
use Rattle.rh_otp_dist.specs.Outside.{introduced_to as dist_introduced_to}
use Rattle.rh_otp_dist.specs.Received.{handle_next as dist_handle_next}
use Rattle.rh_otp_dist.specs.Sending.{del_t_reqs as dist_del_t_reqs}
use Rattle.rh_otp_dist.specs.Told.{run as dist_run, answer_ends as dist_answer_ends, not_run as dist_not_run, stopped as dist_stopped, new_node as dist_new_node, answer_permits as dist_answer_permits, app_started as dist_app_started, app_stopped as dist_app_stopped, weight_told as dist_weight_told, restart as dist_restart, new_permission as dist_new_permission}
use Rattle.rh_otp_net.specs.Links.{to_connect as net_to_connect}
use Rattle.rh_otp_node.specs.Turns.{controlled_by as node_controlled_by, terminated_by as node_terminated_by, handled_by as node_handled_by, introduced_by as node_introduced_by}
use Rattle.rh_otp_system.specs.Calling.{lock_call as system_lock_call, wait_for_lock as system_wait_for_lock, behind_sync as system_behind_sync, go_on_call as system_go_on_call, call_received as system_call_received}
use Rattle.rh_otp_system.specs.Connecting.{connect as system_connect}
use Rattle.rh_otp_system.specs.Delivering.{delivered as system_delivered, slowed as system_slowed}
use Rattle.rh_otp_system.specs.Doing.{waited_for as system_waited_for, booted as system_booted, called as system_called, fired_next as system_fired_next, ticked as system_ticked, is_ticked as system_is_ticked}
use Rattle.rh_otp_system.specs.Ending.{down_told as system_down_told, taken_down as system_taken_down, ended as system_ended, stopped as system_stopped}
use Rattle.rh_otp_system.specs.Joining.{join as system_join, has_seen as system_has_seen, boot_next as system_boot_next}
use Rattle.rh_otp_system.specs.Moves.{made as system_made}
use Rattle.rh_otp_system.specs.Resting.{rested as system_rested, forgotten as system_forgotten}
use Rattle.rh_otp_system.specs.Sending.{told as system_told, after as system_after}
use Rattle.rh_otp_system.specs.Working.{take_lock as system_take_lock, gone as system_gone, handled as system_handled, work as system_work, mailed as system_mailed}
use Rattle.rh_agreement_failovers.proofs.RowsTrio.{a, b, c, three, file, within}
use Rattle.rh_agreement_failovers.proofs.RowsStates.{state_one, state_two, state_three, one_is, two_is, three_is}
use Rattle.rh_agreement_failovers.proofs.RowsBoots.{new_live, booted_then, live_one, live_two, live_three, no_timeouts, three_over}

abbrev new_sim : SimView
new_sim = opened three First

abbrev sim_one : SimView
sim_one = with_event new_sim (event.Boot a)

abbrev sim_two : SimView
sim_two = with_event sim_one (event.Boot b)

abbrev pub sim_three : SimView
sim_three = with_event sim_two (event.Boot c)

two_so : state_of sim_two ≡ state_two
two_so = ap (λ (s : StateView). step First s (event.Boot b)) one_is ∙ two_is

pub three_so : state_of sim_three ≡ state_three
three_so = ap (λ (s : StateView). step First s (event.Boot c)) two_so ∙ three_is

-- ---- both tell the same

one_modes : (k : ℕ) → k < 3 → mode_of_phase (phase_in live_one (numbered k)) ≡ mode_of state_one (numbered k)
unfolding controller_start controller_stop controller_permit controller_top_ends controller_do_start controller_change controller_received controller_spawn_starter controller_reply_to_requester controller_has_started controller_start_reply dist_finish dist_runs_elsewhere dist_take_over dist_permit dist_get_nodes dist_start_here dist_is_to_start dist_find_start_node dist_start_distributed dist_start_appl dist_check_waiting dist_node_down dist_introduced_to dist_handle_next dist_del_t_reqs dist_run dist_answer_ends dist_not_run dist_stopped dist_new_node dist_answer_permits dist_app_started dist_app_stopped dist_weight_told dist_restart dist_new_permission net_to_connect node_controlled_by node_terminated_by node_handled_by node_introduced_by system_lock_call system_wait_for_lock system_behind_sync system_go_on_call system_call_received system_connect system_delivered system_slowed system_waited_for system_booted system_called system_fired_next system_ticked system_is_ticked system_down_told system_taken_down system_ended system_stopped system_join system_has_seen system_boot_next system_made system_rested system_forgotten system_told system_after system_take_lock system_gone system_handled system_work system_mailed
one_modes zero inside = refl
one_modes (suc zero) inside = refl
one_modes (suc (suc zero)) inside = refl
one_modes (suc (suc (suc k))) inside = absurd (omega (arith, inside))

one_begun : (k : ℕ) → k < 3 → life_in live_one (numbered k) ≡ incarnation_of state_one (numbered k)
unfolding controller_start controller_stop controller_permit controller_top_ends controller_do_start controller_change controller_received controller_spawn_starter controller_reply_to_requester controller_has_started controller_start_reply dist_finish dist_runs_elsewhere dist_take_over dist_permit dist_get_nodes dist_start_here dist_is_to_start dist_find_start_node dist_start_distributed dist_start_appl dist_check_waiting dist_node_down dist_introduced_to dist_handle_next dist_del_t_reqs dist_run dist_answer_ends dist_not_run dist_stopped dist_new_node dist_answer_permits dist_app_started dist_app_stopped dist_weight_told dist_restart dist_new_permission net_to_connect node_controlled_by node_terminated_by node_handled_by node_introduced_by system_lock_call system_wait_for_lock system_behind_sync system_go_on_call system_call_received system_connect system_delivered system_slowed system_waited_for system_booted system_called system_fired_next system_ticked system_is_ticked system_down_told system_taken_down system_ended system_stopped system_join system_has_seen system_boot_next system_made system_rested system_forgotten system_told system_after system_take_lock system_gone system_handled system_work system_mailed
one_begun zero inside = refl
one_begun (suc zero) inside = refl
one_begun (suc (suc zero)) inside = refl
one_begun (suc (suc (suc k))) inside = absurd (omega (arith, inside))

one_few : (k : ℕ) → k < 3 → incarnation_of state_one (numbered k) ≤ incarnation_limit
one_few zero inside = omega arith
one_few (suc zero) inside = omega arith
one_few (suc (suc zero)) inside = omega arith
one_few (suc (suc (suc k))) inside = absurd (omega (arith, inside))

one_told : TellTheSame state_one live_one
unfolding controller_start controller_stop controller_permit controller_top_ends controller_do_start controller_change controller_received controller_spawn_starter controller_reply_to_requester controller_has_started controller_start_reply dist_finish dist_runs_elsewhere dist_take_over dist_permit dist_get_nodes dist_start_here dist_is_to_start dist_find_start_node dist_start_distributed dist_start_appl dist_check_waiting dist_node_down dist_introduced_to dist_handle_next dist_del_t_reqs dist_run dist_answer_ends dist_not_run dist_stopped dist_new_node dist_answer_permits dist_app_started dist_app_stopped dist_weight_told dist_restart dist_new_permission net_to_connect node_controlled_by node_terminated_by node_handled_by node_introduced_by system_lock_call system_wait_for_lock system_behind_sync system_go_on_call system_call_received system_connect system_delivered system_slowed system_waited_for system_booted system_called system_fired_next system_ticked system_is_ticked system_down_told system_taken_down system_ended system_stopped system_join system_has_seen system_boot_next system_made system_rested system_forgotten system_told system_after system_take_lock system_gone system_handled system_work system_mailed
one_told = record {
  cluster = refl;
  clock = refl;
  modes = λ n inside. one_modes n.0 inside;
  begun = λ n inside. one_begun n.0 inside;
  limited = λ n inside. one_few n.0 inside;
  cells = omega arith;
}

two_modes : (k : ℕ) → k < 3 → mode_of_phase (phase_in live_two (numbered k)) ≡ mode_of state_two (numbered k)
unfolding controller_start controller_stop controller_permit controller_top_ends controller_do_start controller_change controller_received controller_spawn_starter controller_reply_to_requester controller_has_started controller_start_reply dist_finish dist_runs_elsewhere dist_take_over dist_permit dist_get_nodes dist_start_here dist_is_to_start dist_find_start_node dist_start_distributed dist_start_appl dist_check_waiting dist_node_down dist_introduced_to dist_handle_next dist_del_t_reqs dist_run dist_answer_ends dist_not_run dist_stopped dist_new_node dist_answer_permits dist_app_started dist_app_stopped dist_weight_told dist_restart dist_new_permission net_to_connect node_controlled_by node_terminated_by node_handled_by node_introduced_by system_lock_call system_wait_for_lock system_behind_sync system_go_on_call system_call_received system_connect system_delivered system_slowed system_waited_for system_booted system_called system_fired_next system_ticked system_is_ticked system_down_told system_taken_down system_ended system_stopped system_join system_has_seen system_boot_next system_made system_rested system_forgotten system_told system_after system_take_lock system_gone system_handled system_work system_mailed
two_modes zero inside = refl
two_modes (suc zero) inside = refl
two_modes (suc (suc zero)) inside = refl
two_modes (suc (suc (suc k))) inside = absurd (omega (arith, inside))

two_begun : (k : ℕ) → k < 3 → life_in live_two (numbered k) ≡ incarnation_of state_two (numbered k)
unfolding controller_start controller_stop controller_permit controller_top_ends controller_do_start controller_change controller_received controller_spawn_starter controller_reply_to_requester controller_has_started controller_start_reply dist_finish dist_runs_elsewhere dist_take_over dist_permit dist_get_nodes dist_start_here dist_is_to_start dist_find_start_node dist_start_distributed dist_start_appl dist_check_waiting dist_node_down dist_introduced_to dist_handle_next dist_del_t_reqs dist_run dist_answer_ends dist_not_run dist_stopped dist_new_node dist_answer_permits dist_app_started dist_app_stopped dist_weight_told dist_restart dist_new_permission net_to_connect node_controlled_by node_terminated_by node_handled_by node_introduced_by system_lock_call system_wait_for_lock system_behind_sync system_go_on_call system_call_received system_connect system_delivered system_slowed system_waited_for system_booted system_called system_fired_next system_ticked system_is_ticked system_down_told system_taken_down system_ended system_stopped system_join system_has_seen system_boot_next system_made system_rested system_forgotten system_told system_after system_take_lock system_gone system_handled system_work system_mailed
two_begun zero inside = refl
two_begun (suc zero) inside = refl
two_begun (suc (suc zero)) inside = refl
two_begun (suc (suc (suc k))) inside = absurd (omega (arith, inside))

two_few : (k : ℕ) → k < 3 → incarnation_of state_two (numbered k) ≤ incarnation_limit
two_few zero inside = omega arith
two_few (suc zero) inside = omega arith
two_few (suc (suc zero)) inside = omega arith
two_few (suc (suc (suc k))) inside = absurd (omega (arith, inside))

two_told : TellTheSame state_two live_two
unfolding controller_start controller_stop controller_permit controller_top_ends controller_do_start controller_change controller_received controller_spawn_starter controller_reply_to_requester controller_has_started controller_start_reply dist_finish dist_runs_elsewhere dist_take_over dist_permit dist_get_nodes dist_start_here dist_is_to_start dist_find_start_node dist_start_distributed dist_start_appl dist_check_waiting dist_node_down dist_introduced_to dist_handle_next dist_del_t_reqs dist_run dist_answer_ends dist_not_run dist_stopped dist_new_node dist_answer_permits dist_app_started dist_app_stopped dist_weight_told dist_restart dist_new_permission net_to_connect node_controlled_by node_terminated_by node_handled_by node_introduced_by system_lock_call system_wait_for_lock system_behind_sync system_go_on_call system_call_received system_connect system_delivered system_slowed system_waited_for system_booted system_called system_fired_next system_ticked system_is_ticked system_down_told system_taken_down system_ended system_stopped system_join system_has_seen system_boot_next system_made system_rested system_forgotten system_told system_after system_take_lock system_gone system_handled system_work system_mailed
two_told = record {
  cluster = refl;
  clock = refl;
  modes = λ n inside. two_modes n.0 inside;
  begun = λ n inside. two_begun n.0 inside;
  limited = λ n inside. two_few n.0 inside;
  cells = omega arith;
}

three_modes : (k : ℕ) → k < 3 → mode_of_phase (phase_in live_three (numbered k)) ≡ mode_of state_three (numbered k)
unfolding controller_start controller_stop controller_permit controller_top_ends controller_do_start controller_change controller_received controller_spawn_starter controller_reply_to_requester controller_has_started controller_start_reply dist_finish dist_runs_elsewhere dist_take_over dist_permit dist_get_nodes dist_start_here dist_is_to_start dist_find_start_node dist_start_distributed dist_start_appl dist_check_waiting dist_node_down dist_introduced_to dist_handle_next dist_del_t_reqs dist_run dist_answer_ends dist_not_run dist_stopped dist_new_node dist_answer_permits dist_app_started dist_app_stopped dist_weight_told dist_restart dist_new_permission net_to_connect node_controlled_by node_terminated_by node_handled_by node_introduced_by system_lock_call system_wait_for_lock system_behind_sync system_go_on_call system_call_received system_connect system_delivered system_slowed system_waited_for system_booted system_called system_fired_next system_ticked system_is_ticked system_down_told system_taken_down system_ended system_stopped system_join system_has_seen system_boot_next system_made system_rested system_forgotten system_told system_after system_take_lock system_gone system_handled system_work system_mailed
three_modes zero inside = refl
three_modes (suc zero) inside = refl
three_modes (suc (suc zero)) inside = refl
three_modes (suc (suc (suc k))) inside = absurd (omega (arith, inside))

three_begun : (k : ℕ) → k < 3 → life_in live_three (numbered k) ≡ incarnation_of state_three (numbered k)
unfolding controller_start controller_stop controller_permit controller_top_ends controller_do_start controller_change controller_received controller_spawn_starter controller_reply_to_requester controller_has_started controller_start_reply dist_finish dist_runs_elsewhere dist_take_over dist_permit dist_get_nodes dist_start_here dist_is_to_start dist_find_start_node dist_start_distributed dist_start_appl dist_check_waiting dist_node_down dist_introduced_to dist_handle_next dist_del_t_reqs dist_run dist_answer_ends dist_not_run dist_stopped dist_new_node dist_answer_permits dist_app_started dist_app_stopped dist_weight_told dist_restart dist_new_permission net_to_connect node_controlled_by node_terminated_by node_handled_by node_introduced_by system_lock_call system_wait_for_lock system_behind_sync system_go_on_call system_call_received system_connect system_delivered system_slowed system_waited_for system_booted system_called system_fired_next system_ticked system_is_ticked system_down_told system_taken_down system_ended system_stopped system_join system_has_seen system_boot_next system_made system_rested system_forgotten system_told system_after system_take_lock system_gone system_handled system_work system_mailed
three_begun zero inside = refl
three_begun (suc zero) inside = refl
three_begun (suc (suc zero)) inside = refl
three_begun (suc (suc (suc k))) inside = absurd (omega (arith, inside))

three_few : (k : ℕ) → k < 3 → incarnation_of state_three (numbered k) ≤ incarnation_limit
three_few zero inside = omega arith
three_few (suc zero) inside = omega arith
three_few (suc (suc zero)) inside = omega arith
three_few (suc (suc (suc k))) inside = absurd (omega (arith, inside))

three_told : TellTheSame state_three live_three
unfolding controller_start controller_stop controller_permit controller_top_ends controller_do_start controller_change controller_received controller_spawn_starter controller_reply_to_requester controller_has_started controller_start_reply dist_finish dist_runs_elsewhere dist_take_over dist_permit dist_get_nodes dist_start_here dist_is_to_start dist_find_start_node dist_start_distributed dist_start_appl dist_check_waiting dist_node_down dist_introduced_to dist_handle_next dist_del_t_reqs dist_run dist_answer_ends dist_not_run dist_stopped dist_new_node dist_answer_permits dist_app_started dist_app_stopped dist_weight_told dist_restart dist_new_permission net_to_connect node_controlled_by node_terminated_by node_handled_by node_introduced_by system_lock_call system_wait_for_lock system_behind_sync system_go_on_call system_call_received system_connect system_delivered system_slowed system_waited_for system_booted system_called system_fired_next system_ticked system_is_ticked system_down_told system_taken_down system_ended system_stopped system_join system_has_seen system_boot_next system_made system_rested system_forgotten system_told system_after system_take_lock system_gone system_handled system_work system_mailed
three_told = record {
  cluster = refl;
  clock = refl;
  modes = λ n inside. three_modes n.0 inside;
  begun = λ n inside. three_begun n.0 inside;
  limited = λ n inside. three_few n.0 inside;
  cells = omega arith;
}

together_one : GoTogether sim_one live_one
together_one =
    one_more new_sim new_live (event.Boot a) (cells_behind (net_in new_live) 3 (booted_then a new_live))
    (begin_together three First (file ∷ file ∷ file ∷ []) FirstComes)
    (subst (λ (s : StateView). TellTheSame s live_one) (sym one_is) one_told)

together_two : GoTogether sim_two live_two
together_two =
    one_more sim_one live_one (event.Boot b) (cells_behind (net_in live_one) 3 (booted_then b live_one)) together_one
    (subst (λ (s : StateView). TellTheSame s live_two) (sym two_so) two_told)

pub together_three : GoTogether sim_three live_three
together_three =
    one_more sim_two live_two (event.Boot c) (cells_behind (net_in live_two) 3 (booted_then c live_two)) together_two
    (subst (λ (s : StateView). TellTheSame s live_three) (sym three_so) three_told)

-- ---- and are at rest

fine_one : refused (first three) (event.Boot a) ≡ None
unfolding refused
fine_one = refl

fine_two : refused state_one (event.Boot b) ≡ None
unfolding refused
fine_two = refl

fine_three : refused state_two (event.Boot c) ≡ None
unfolding refused
fine_three = refl

valid_one : IsValid (state_of sim_one)
unfolding step
valid_one = next_valid (first three) (event.Boot a) First (first_valid three within) fine_one

valid_two : IsValid (state_of sim_two)
unfolding step
valid_two =
    next_valid (state_of sim_one) (event.Boot b) First valid_one
    (ap (λ (s : StateView). refused s (event.Boot b)) one_is ∙ fine_two)

valid_three : IsValid (state_of sim_three)
unfolding step
valid_three =
    next_valid (state_of sim_two) (event.Boot c) First valid_two
    (ap (λ (s : StateView). refused s (event.Boot c)) two_so ∙ fine_three)

pub at_rest_three : AreBothAtRest sim_three live_three
unfolding forgotten
at_rest_three = record {
  valid = valid_three;
  reached = reached_again live_two (booted_then c live_two) three_over;
  rest = rests_again live_two (booted_then c live_two) three_over;
  later = λ n. no_timeouts n.0;
}
