-- A failover that the law is of: the first of three nodes has crashed, and both others' timers are due at the same moment. So it is
-- answered alike, and the application fails over to the second one, while the third stands by.
use Rattle.std.proofs.Common.{◌≡◌, ◌≢◌, ◌<◌, ◌+◌, ◌||◌, ◌∙◌, ℕ, zero, suc, true, false, None, Some, List, [], ◌∷◌, length, map, inl, inr, refl, sym, ap, subst, arith}
use Rattle.std.specs.List.{list_any}
use Rattle.std.proofs.lemmas.Bool.{cases_eq, false≢true, ne_eqb}
use Rattle.rh_model.specs.ClusterView.{app_numbered, deps_of, group_of, numbered}
use Rattle.rh_model.specs.declared.node.Node.{Node}
use Rattle.rh_rules.specs.declared.event.Event.TheVariants as event
use Rattle.rh_rules.specs.declared.notice.Notice.TheVariants as notice
use Rattle.rh_rules.specs.Moves.{comes_before}
use Rattle.rh_rules.specs.Placing.{deps_run, is_operational, start_kind}
use Rattle.rh_rules.specs.Refusals.{refused}
use Rattle.rh_calls.specs.declared.call.Call.TheVariants as call
use Rattle.rh_calls.specs.declared.call.Reply.TheVariants as reply
use Rattle.rh_state.specs.declared.status.Kind.TheVariants.{Failover}
use Rattle.rh_state.specs.First.{configured}
use Rattle.rh_state.specs.StateView.{StateView}
use Rattle.rh_trail.specs.Lone.{served, trail_limit}
use Rattle.rh_trail.specs.SimView.{SimView, state_of}
use Rattle.rh_otp_controller.specs.Calls.{is_here}
use Rattle.rh_otp_dist.specs.State.{DistView, is_among}
use Rattle.rh_otp_model.specs.Rows.{keyfind}
use Rattle.rh_otp_node.specs.Live.{is_alive}
use Rattle.rh_otp_sim.specs.Acting.{acted, acted_at_once, is_acted, is_quiet_at_once}
use Rattle.rh_otp_sim.specs.Refusing.{node_in}
use Rattle.rh_otp_sim.specs.Sim.{net_in}
use Rattle.rh_otp_system.specs.State.{own_at}
use Rattle.rh_otp_crashes.proofs.Crossing.{same_node}
use Rattle.rh_agreement.specs.Laws.{IsAnsweredAlike, HasRoom}
use Rattle.rh_agreement_calls.specs.Starts.{is_dep}
use Rattle.rh_agreement_failovers.specs.Failovers.{CanFailOver, CanFailOverLive}
use Rattle.rh_agreement_failovers.proofs.FailAlike.{failovers_alike}
use Rattle.rh_otp_controller.specs.Calls.{start as controller_start, stop as controller_stop, permit as controller_permit, top_ends as controller_top_ends}
use Rattle.rh_otp_controller.specs.Changes.{do_start as controller_do_start, change as controller_change, received as controller_received}
use Rattle.rh_otp_controller.specs.Starting.{spawn_starter as controller_spawn_starter, reply_to_requester as controller_reply_to_requester, has_started as controller_has_started, start_reply as controller_start_reply}
use Rattle.rh_otp_dist.specs.Attempts.{finish as dist_finish, runs_elsewhere as dist_runs_elsewhere}
use Rattle.rh_otp_dist.specs.Calls.{take_over as dist_take_over, permit as dist_permit, get_nodes as dist_get_nodes}
use Rattle.rh_otp_dist.specs.Choosing.{start_here as dist_start_here, is_to_start as dist_is_to_start, find_start_node as dist_find_start_node, start_distributed as dist_start_distributed, start_appl as dist_start_appl}
use Rattle.rh_otp_dist.specs.Down.{check_waiting as dist_check_waiting, node_down as dist_node_down}
use Rattle.rh_otp_dist.specs.Outside.{introduced_to as dist_introduced_to}
use Rattle.rh_otp_dist.specs.Received.{handle_next as dist_handle_next}
use Rattle.rh_otp_dist.specs.Sending.{del_t_reqs as dist_del_t_reqs}
use Rattle.rh_otp_dist.specs.Told.{run as dist_run, answer_ends as dist_answer_ends, not_run as dist_not_run, stopped as dist_stopped, new_node as dist_new_node, answer_permits as dist_answer_permits, app_started as dist_app_started, app_stopped as dist_app_stopped, weight_told as dist_weight_told, restart as dist_restart, new_permission as dist_new_permission}
use Rattle.rh_otp_net.specs.Links.{to_connect as net_to_connect}
use Rattle.rh_otp_node.specs.Turns.{controlled_by as node_controlled_by, terminated_by as node_terminated_by, handled_by as node_handled_by, introduced_by as node_introduced_by}
use Rattle.rh_otp_system.specs.Calling.{lock_call as system_lock_call, wait_for_lock as system_wait_for_lock, behind_sync as system_behind_sync, go_on_call as system_go_on_call, call_received as system_call_received}
use Rattle.rh_otp_system.specs.Connecting.{connect as system_connect}
use Rattle.rh_otp_system.specs.Delivering.{delivered as system_delivered, slowed as system_slowed}
use Rattle.rh_otp_system.specs.Doing.{waited_for as system_waited_for, booted as system_booted, called as system_called, fired_next as system_fired_next, ticked as system_ticked, is_ticked as system_is_ticked}
use Rattle.rh_otp_system.specs.Ending.{down_told as system_down_told, taken_down as system_taken_down, ended as system_ended, stopped as system_stopped}
use Rattle.rh_otp_system.specs.Joining.{join as system_join, has_seen as system_has_seen, boot_next as system_boot_next}
use Rattle.rh_otp_system.specs.Moves.{made as system_made}
use Rattle.rh_otp_system.specs.Resting.{rested as system_rested, forgotten as system_forgotten}
use Rattle.rh_otp_system.specs.Sending.{told as system_told, after as system_after}
use Rattle.rh_otp_system.specs.Working.{take_lock as system_take_lock, gone as system_gone, handled as system_handled, work as system_work, mailed as system_mailed}
use Rattle.rh_otp_model.specs.Own.{controls}
use Rattle.rh_otp_model.specs.Rows.{has_row}
use Rattle.rh_otp_net.specs.Timers.{left, next_due}
use Rattle.rh_otp_node.specs.Live.{is_ending}
use Rattle.rh_otp_system.specs.Doing.{until_if}
use Rattle.rh_state.specs.Numbers.{nodes_of, apps_of}
use Rattle.rh_agreement.specs.Resting.{held}
use Rattle.rh_agreement_failovers.proofs.RowsTrio.{a, b, c, web, three}
use Rattle.rh_agreement_failovers.proofs.RowsLost.{sim_four, live_four, state_four, sim_is, four_so, together_four, at_rest_four}
use Rattle.rh_agreement_failovers.proofs.RowsStandby.{awake, dist_of, fails, due_is, losses_are, gone_is, dist_is}

-- ---- by the manual's rules

others_later : (k : ℕ) → k ≢ 1 → is_operational state_four web (numbered k) ≡ true
    → comes_before (group_of three web b) (group_of three web (numbered k)) ≡ true
unfolding is_operational
others_later zero other can = absurd (false≢true can)
others_later (suc zero) other can = absurd (other refl)
others_later (suc (suc zero)) other can = refl
others_later (suc (suc (suc k))) other can = absurd (false≢true can)

needs_none : (k : ℕ) → list_any (is_dep web) (deps_of three (app_numbered k)) ≡ false
needs_none zero = refl
needs_none (suc k) = refl

pub can_then : CanFailOver 5000 state_four b a web
unfolding is_operational deps_run configured nodes_of apps_of
can_then = record {
  due = 5000;
  timer = refl;
  last = refl;
  lost = refl;
  elsewhere = λ same. omega (arith, same);
  can = refl;
  first = λ m other can. others_later m.0 other can;
  unneeded = λ x waits. needs_none x.0;
}

can : CanFailOver 5000 (state_of sim_four) b a web
can = subst (λ (s : StateView). CanFailOver 5000 s b a web) (sym four_so) can_then

-- ---- on live nodes

clock_is : (net_in live_four).clock ≡ 0
unfolding controller_start controller_stop controller_permit controller_top_ends controller_do_start controller_change controller_received controller_spawn_starter controller_reply_to_requester controller_has_started controller_start_reply dist_finish dist_runs_elsewhere dist_take_over dist_permit dist_get_nodes dist_start_here dist_is_to_start dist_find_start_node dist_start_distributed dist_start_appl dist_check_waiting dist_node_down dist_introduced_to dist_handle_next dist_del_t_reqs dist_run dist_answer_ends dist_not_run dist_stopped dist_new_node dist_answer_permits dist_app_started dist_app_stopped dist_weight_told dist_restart dist_new_permission net_to_connect node_controlled_by node_terminated_by node_handled_by node_introduced_by system_lock_call system_wait_for_lock system_behind_sync system_go_on_call system_call_received system_connect system_delivered system_slowed system_waited_for system_booted system_called system_fired_next system_ticked system_is_ticked system_down_told system_taken_down system_ended system_stopped system_join system_has_seen system_boot_next system_made system_rested system_forgotten system_told system_after system_take_lock system_gone system_handled system_work system_mailed acted acted_at_once is_acted is_quiet_at_once
clock_is = refl

calls_is : (net_in live_four).last_call ≡ 0
unfolding controller_start controller_stop controller_permit controller_top_ends controller_do_start controller_change controller_received controller_spawn_starter controller_reply_to_requester controller_has_started controller_start_reply dist_finish dist_runs_elsewhere dist_take_over dist_permit dist_get_nodes dist_start_here dist_is_to_start dist_find_start_node dist_start_distributed dist_start_appl dist_check_waiting dist_node_down dist_introduced_to dist_handle_next dist_del_t_reqs dist_run dist_answer_ends dist_not_run dist_stopped dist_new_node dist_answer_permits dist_app_started dist_app_stopped dist_weight_told dist_restart dist_new_permission net_to_connect node_controlled_by node_terminated_by node_handled_by node_introduced_by system_lock_call system_wait_for_lock system_behind_sync system_go_on_call system_call_received system_connect system_delivered system_slowed system_waited_for system_booted system_called system_fired_next system_ticked system_is_ticked system_down_told system_taken_down system_ended system_stopped system_join system_has_seen system_boot_next system_made system_rested system_forgotten system_told system_after system_take_lock system_gone system_handled system_work system_mailed acted acted_at_once is_acted is_quiet_at_once
calls_is = refl

last_is : until_if 5000 (next_due (left awake.timers)) ≡ None
unfolding controller_start controller_stop controller_permit controller_top_ends controller_do_start controller_change controller_received controller_spawn_starter controller_reply_to_requester controller_has_started controller_start_reply dist_finish dist_runs_elsewhere dist_take_over dist_permit dist_get_nodes dist_start_here dist_is_to_start dist_find_start_node dist_start_distributed dist_start_appl dist_check_waiting dist_node_down dist_introduced_to dist_handle_next dist_del_t_reqs dist_run dist_answer_ends dist_not_run dist_stopped dist_new_node dist_answer_permits dist_app_started dist_app_stopped dist_weight_told dist_restart dist_new_permission net_to_connect node_controlled_by node_terminated_by node_handled_by node_introduced_by system_lock_call system_wait_for_lock system_behind_sync system_go_on_call system_call_received system_connect system_delivered system_slowed system_waited_for system_booted system_called system_fired_next system_ticked system_is_ticked system_down_told system_taken_down system_ended system_stopped system_join system_has_seen system_boot_next system_made system_rested system_forgotten system_told system_after system_take_lock system_gone system_handled system_work system_mailed acted acted_at_once is_acted is_quiet_at_once
last_is = refl

own_is : controls (own_at (held live_four) b) web ≡ true
unfolding controller_start controller_stop controller_permit controller_top_ends controller_do_start controller_change controller_received controller_spawn_starter controller_reply_to_requester controller_has_started controller_start_reply dist_finish dist_runs_elsewhere dist_take_over dist_permit dist_get_nodes dist_start_here dist_is_to_start dist_find_start_node dist_start_distributed dist_start_appl dist_check_waiting dist_node_down dist_introduced_to dist_handle_next dist_del_t_reqs dist_run dist_answer_ends dist_not_run dist_stopped dist_new_node dist_answer_permits dist_app_started dist_app_stopped dist_weight_told dist_restart dist_new_permission net_to_connect node_controlled_by node_terminated_by node_handled_by node_introduced_by system_lock_call system_wait_for_lock system_behind_sync system_go_on_call system_call_received system_connect system_delivered system_slowed system_waited_for system_booted system_called system_fired_next system_ticked system_is_ticked system_down_told system_taken_down system_ended system_stopped system_join system_has_seen system_boot_next system_made system_rested system_forgotten system_told system_after system_take_lock system_gone system_handled system_work system_mailed acted acted_at_once is_acted is_quiet_at_once
own_is = refl

started_is : has_row web (node_in live_four b).controller.started ≡ true
unfolding controller_start controller_stop controller_permit controller_top_ends controller_do_start controller_change controller_received controller_spawn_starter controller_reply_to_requester controller_has_started controller_start_reply dist_finish dist_runs_elsewhere dist_take_over dist_permit dist_get_nodes dist_start_here dist_is_to_start dist_find_start_node dist_start_distributed dist_start_appl dist_check_waiting dist_node_down dist_introduced_to dist_handle_next dist_del_t_reqs dist_run dist_answer_ends dist_not_run dist_stopped dist_new_node dist_answer_permits dist_app_started dist_app_stopped dist_weight_told dist_restart dist_new_permission net_to_connect node_controlled_by node_terminated_by node_handled_by node_introduced_by system_lock_call system_wait_for_lock system_behind_sync system_go_on_call system_call_received system_connect system_delivered system_slowed system_waited_for system_booted system_called system_fired_next system_ticked system_is_ticked system_down_told system_taken_down system_ended system_stopped system_join system_has_seen system_boot_next system_made system_rested system_forgotten system_told system_after system_take_lock system_gone system_handled system_work system_mailed acted acted_at_once is_acted is_quiet_at_once
started_is = refl

runs_is : has_row web (node_in live_four b).controller.running ≡ true
unfolding controller_start controller_stop controller_permit controller_top_ends controller_do_start controller_change controller_received controller_spawn_starter controller_reply_to_requester controller_has_started controller_start_reply dist_finish dist_runs_elsewhere dist_take_over dist_permit dist_get_nodes dist_start_here dist_is_to_start dist_find_start_node dist_start_distributed dist_start_appl dist_check_waiting dist_node_down dist_introduced_to dist_handle_next dist_del_t_reqs dist_run dist_answer_ends dist_not_run dist_stopped dist_new_node dist_answer_permits dist_app_started dist_app_stopped dist_weight_told dist_restart dist_new_permission net_to_connect node_controlled_by node_terminated_by node_handled_by node_introduced_by system_lock_call system_wait_for_lock system_behind_sync system_go_on_call system_call_received system_connect system_delivered system_slowed system_waited_for system_booted system_called system_fired_next system_ticked system_is_ticked system_down_told system_taken_down system_ended system_stopped system_join system_has_seen system_boot_next system_made system_rested system_forgotten system_told system_after system_take_lock system_gone system_handled system_work system_mailed acted acted_at_once is_acted is_quiet_at_once
runs_is = refl

away_is : is_here (keyfind web (node_in live_four b).controller.running) ≡ false
unfolding controller_start controller_stop controller_permit controller_top_ends controller_do_start controller_change controller_received controller_spawn_starter controller_reply_to_requester controller_has_started controller_start_reply dist_finish dist_runs_elsewhere dist_take_over dist_permit dist_get_nodes dist_start_here dist_is_to_start dist_find_start_node dist_start_distributed dist_start_appl dist_check_waiting dist_node_down dist_introduced_to dist_handle_next dist_del_t_reqs dist_run dist_answer_ends dist_not_run dist_stopped dist_new_node dist_answer_permits dist_app_started dist_app_stopped dist_weight_told dist_restart dist_new_permission net_to_connect node_controlled_by node_terminated_by node_handled_by node_introduced_by system_lock_call system_wait_for_lock system_behind_sync system_go_on_call system_call_received system_connect system_delivered system_slowed system_waited_for system_booted system_called system_fired_next system_ticked system_is_ticked system_down_told system_taken_down system_ended system_stopped system_join system_has_seen system_boot_next system_made system_rested system_forgotten system_told system_after system_take_lock system_gone system_handled system_work system_mailed acted acted_at_once is_acted is_quiet_at_once
away_is = refl

stays_is : is_ending (node_in live_four b) ≡ false
unfolding controller_start controller_stop controller_permit controller_top_ends controller_do_start controller_change controller_received controller_spawn_starter controller_reply_to_requester controller_has_started controller_start_reply dist_finish dist_runs_elsewhere dist_take_over dist_permit dist_get_nodes dist_start_here dist_is_to_start dist_find_start_node dist_start_distributed dist_start_appl dist_check_waiting dist_node_down dist_introduced_to dist_handle_next dist_del_t_reqs dist_run dist_answer_ends dist_not_run dist_stopped dist_new_node dist_answer_permits dist_app_started dist_app_stopped dist_weight_told dist_restart dist_new_permission net_to_connect node_controlled_by node_terminated_by node_handled_by node_introduced_by system_lock_call system_wait_for_lock system_behind_sync system_go_on_call system_call_received system_connect system_delivered system_slowed system_waited_for system_booted system_called system_fired_next system_ticked system_is_ticked system_down_told system_taken_down system_ended system_stopped system_join system_has_seen system_boot_next system_made system_rested system_forgotten system_told system_after system_take_lock system_gone system_handled system_work system_mailed acted acted_at_once is_acted is_quiet_at_once
stays_is = refl

known_is : is_among c (dist_of b).known ≡ true
unfolding controller_start controller_stop controller_permit controller_top_ends controller_do_start controller_change controller_received controller_spawn_starter controller_reply_to_requester controller_has_started controller_start_reply dist_finish dist_runs_elsewhere dist_take_over dist_permit dist_get_nodes dist_start_here dist_is_to_start dist_find_start_node dist_start_distributed dist_start_appl dist_check_waiting dist_node_down dist_introduced_to dist_handle_next dist_del_t_reqs dist_run dist_answer_ends dist_not_run dist_stopped dist_new_node dist_answer_permits dist_app_started dist_app_stopped dist_weight_told dist_restart dist_new_permission net_to_connect node_controlled_by node_terminated_by node_handled_by node_introduced_by system_lock_call system_wait_for_lock system_behind_sync system_go_on_call system_call_received system_connect system_delivered system_slowed system_waited_for system_booted system_called system_fired_next system_ticked system_is_ticked system_down_told system_taken_down system_ended system_stopped system_join system_has_seen system_boot_next system_made system_rested system_forgotten system_told system_after system_take_lock system_gone system_handled system_work system_mailed acted acted_at_once is_acted is_quiet_at_once
known_is = refl

third_away : is_here (keyfind web (node_in live_four c).controller.running) ≡ false
unfolding controller_start controller_stop controller_permit controller_top_ends controller_do_start controller_change controller_received controller_spawn_starter controller_reply_to_requester controller_has_started controller_start_reply dist_finish dist_runs_elsewhere dist_take_over dist_permit dist_get_nodes dist_start_here dist_is_to_start dist_find_start_node dist_start_distributed dist_start_appl dist_check_waiting dist_node_down dist_introduced_to dist_handle_next dist_del_t_reqs dist_run dist_answer_ends dist_not_run dist_stopped dist_new_node dist_answer_permits dist_app_started dist_app_stopped dist_weight_told dist_restart dist_new_permission net_to_connect node_controlled_by node_terminated_by node_handled_by node_introduced_by system_lock_call system_wait_for_lock system_behind_sync system_go_on_call system_call_received system_connect system_delivered system_slowed system_waited_for system_booted system_called system_fired_next system_ticked system_is_ticked system_down_told system_taken_down system_ended system_stopped system_join system_has_seen system_boot_next system_made system_rested system_forgotten system_told system_after system_take_lock system_gone system_handled system_work system_mailed acted acted_at_once is_acted is_quiet_at_once
third_away = refl

few_known : length (dist_of b).known ≡ 2
unfolding controller_start controller_stop controller_permit controller_top_ends controller_do_start controller_change controller_received controller_spawn_starter controller_reply_to_requester controller_has_started controller_start_reply dist_finish dist_runs_elsewhere dist_take_over dist_permit dist_get_nodes dist_start_here dist_is_to_start dist_find_start_node dist_start_distributed dist_start_appl dist_check_waiting dist_node_down dist_introduced_to dist_handle_next dist_del_t_reqs dist_run dist_answer_ends dist_not_run dist_stopped dist_new_node dist_answer_permits dist_app_started dist_app_stopped dist_weight_told dist_restart dist_new_permission net_to_connect node_controlled_by node_terminated_by node_handled_by node_introduced_by system_lock_call system_wait_for_lock system_behind_sync system_go_on_call system_call_received system_connect system_delivered system_slowed system_waited_for system_booted system_called system_fired_next system_ticked system_is_ticked system_down_told system_taken_down system_ended system_stopped system_join system_has_seen system_boot_next system_made system_rested system_forgotten system_told system_after system_take_lock system_gone system_handled system_work system_mailed acted acted_at_once is_acted is_quiet_at_once
few_known = refl

first_dead : is_alive (node_in live_four a) ≡ false
unfolding controller_start controller_stop controller_permit controller_top_ends controller_do_start controller_change controller_received controller_spawn_starter controller_reply_to_requester controller_has_started controller_start_reply dist_finish dist_runs_elsewhere dist_take_over dist_permit dist_get_nodes dist_start_here dist_is_to_start dist_find_start_node dist_start_distributed dist_start_appl dist_check_waiting dist_node_down dist_introduced_to dist_handle_next dist_del_t_reqs dist_run dist_answer_ends dist_not_run dist_stopped dist_new_node dist_answer_permits dist_app_started dist_app_stopped dist_weight_told dist_restart dist_new_permission net_to_connect node_controlled_by node_terminated_by node_handled_by node_introduced_by system_lock_call system_wait_for_lock system_behind_sync system_go_on_call system_call_received system_connect system_delivered system_slowed system_waited_for system_booted system_called system_fired_next system_ticked system_is_ticked system_down_told system_taken_down system_ended system_stopped system_join system_has_seen system_boot_next system_made system_rested system_forgotten system_told system_after system_take_lock system_gone system_handled system_work system_mailed acted acted_at_once is_acted is_quiet_at_once
first_dead = refl

no_more_too : (k : ℕ) → is_alive (node_in live_four (numbered (suc (suc (suc k))))) ≡ false
unfolding controller_start controller_stop controller_permit controller_top_ends controller_do_start controller_change controller_received controller_spawn_starter controller_reply_to_requester controller_has_started controller_start_reply dist_finish dist_runs_elsewhere dist_take_over dist_permit dist_get_nodes dist_start_here dist_is_to_start dist_find_start_node dist_start_distributed dist_start_appl dist_check_waiting dist_node_down dist_introduced_to dist_handle_next dist_del_t_reqs dist_run dist_answer_ends dist_not_run dist_stopped dist_new_node dist_answer_permits dist_app_started dist_app_stopped dist_weight_told dist_restart dist_new_permission net_to_connect node_controlled_by node_terminated_by node_handled_by node_introduced_by system_lock_call system_wait_for_lock system_behind_sync system_go_on_call system_call_received system_connect system_delivered system_slowed system_waited_for system_booted system_called system_fired_next system_ticked system_is_ticked system_down_told system_taken_down system_ended system_stopped system_join system_has_seen system_boot_next system_made system_rested system_forgotten system_told system_after system_take_lock system_gone system_handled system_work system_mailed acted acted_at_once is_acted is_quiet_at_once
no_more_too zero = refl
no_more_too (suc k) = refl

knows_third : (k : ℕ) → k ≢ 1 → is_among (numbered k) (b ∷ c ∷ []) ≡ true → is_among (numbered k) (dist_of b).known ≡ true
knows_third k other among = elim (cases_eq k 2) [
  | inl same ↦ subst (λ (j : ℕ). is_among (numbered j) (dist_of b).known ≡ true) (sym same) known_is
  | inr apart ↦ absurd (false≢true (sym (λ i. ne_eqb k 1 other i || (ne_eqb k 2 apart i || false)) ∙ among))
]

nowhere : (k : ℕ) → k ≢ 1 → is_alive (node_in live_four (numbered k)) ≡ true
    → is_here (keyfind web (node_in live_four (numbered k)).controller.running) ≡ false
nowhere zero other alive = absurd (false≢true (sym first_dead ∙ alive))
nowhere (suc zero) other alive = absurd (other refl)
nowhere (suc (suc zero)) other alive = third_away
nowhere (suc (suc (suc k))) other alive = absurd (false≢true (sym (no_more_too k) ∙ alive))

knows_it : (m : Node) → m.0 ≢ 1 → is_among m (map (λ (row : Node × ℕ). row.0) fails.losses) ≡ true
    → is_among m fails.first.dist.known ≡ true
knows_it m other among =
    subst (λ (d : DistView). is_among m d.known ≡ true) (sym dist_is)
    (subst (λ (k : Node). is_among k (dist_of b).known ≡ true) (same_node (numbered m.0) m refl)
    (knows_third m.0 other
    (subst (λ (rows : List (Node × ℕ)). is_among (numbered m.0) (map (λ (row : Node × ℕ). row.0) rows) ≡ true) losses_are among)))

pub can_live : CanFailOverLive 5000 live_four b a web
can_live = record {
  failover = fails;
  in_time = omega (arith, due_is, clock_is);
  last = ap (λ (clock : ℕ). until_if (clock + 5000) (next_due (left awake.timers))) clock_is ∙ last_is;
  fires = subst (λ (rows : List (Node × ℕ)). is_among b (map (λ (row : Node × ℕ). row.0) rows) ≡ true) (sym losses_are) refl;
  with_it = gone_is;
  own = own_is;
  started = started_is;
  runs = runs_is;
  away = away_is;
  stays = stays_is;
  knows = λ m other among stands. knows_it m other among;
  nowhere = λ m other alive. nowhere m.0 other alive;
  few =
      let timers : length fails.losses ≡ 2 = ap (λ (rows : List (Node × ℕ)). length rows) losses_are in
      let known : length fails.first.dist.known ≡ 2 = ap (λ (d : DistView). length d.known) dist_is ∙ few_known in
      omega (arith, timers, known);
}

-- ---- so the law is of it

pub room : HasRoom sim_four live_four
room = record {
  steps = subst (λ (s : SimView). s.cursor < trail_limit) (sym sim_is) (omega arith);
  calls = omega (arith, calls_is);
}

failover_row : IsAnsweredAlike (call.Step (event.Tick 5000)) sim_four live_four
failover_row = (failovers_alike sim_four live_four 5000 b a web together_four room at_rest_four can can_live).0

-- and it isn't refused
fine_then : refused state_four (event.Tick 5000) ≡ None
unfolding refused
fine_then = refl

failover_told : (served sim_four (call.Step (event.Tick 5000))).reply
    ≡ reply.Done (notice.Started web b (start_kind (state_of sim_four) web (Some a) b) (Some a) ∷ [])
failover_told =
    (failovers_alike sim_four live_four 5000 b a web together_four room at_rest_four can can_live).3
    (ap (λ (s : StateView). refused s (event.Tick 5000)) four_so ∙ fine_then)

-- as a failover from the first node
kind_is : start_kind (state_of sim_four) web (Some a) b ≡ Failover a
kind_is = ap (λ (s : StateView). start_kind s web (Some a) b) four_so
