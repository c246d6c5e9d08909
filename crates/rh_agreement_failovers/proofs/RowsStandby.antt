-- Behind the crash both others' timers are due next, at the same moment. The second node is the first that may run the application now, and
-- the third stands by.
use Rattle.std.proofs.Common.{◌≡◌, ◌≢◌, ◌⊎◌, ◌≤◌, ◌==◌, ◌&&◌, ◌||◌, ◌∙◌, ℕ, zero, suc, Bool, true, false, cond, None, Some, List, [], ◌∷◌, length, unwrap_or, is_some, Option, inl, refl, sym, ap, subst, arith}
use Rattle.std.proofs.lemmas.Bool.{eqb-true, false≢true}
use Rattle.std.proofs.lemmas.Option.{same_Some}
use Rattle.rh_model.specs.ClusterView.{numbered}
use Rattle.rh_model.specs.declared.node.Node.{Node}
use Rattle.rh_otp_net.specs.Links.{are_linked}
use Rattle.rh_otp_sim.specs.Acting.{acted, acted_at_once, is_acted, is_quiet_at_once}
use Rattle.rh_otp_system.specs.State.{SystemView, node_at, own_at, is_alive_at}
use Rattle.rh_otp_controller.specs.Calls.{start as controller_start, stop as controller_stop, permit as controller_permit, top_ends as controller_top_ends}
use Rattle.rh_otp_controller.specs.Changes.{do_start as controller_do_start, change as controller_change, received as controller_received}
use Rattle.rh_otp_controller.specs.Starting.{spawn_starter as controller_spawn_starter, reply_to_requester as controller_reply_to_requester, has_started as controller_has_started, start_reply as controller_start_reply}
use Rattle.rh_otp_dist.specs.Attempts.{finish as dist_finish, runs_elsewhere as dist_runs_elsewhere}
use Rattle.rh_otp_dist.specs.Calls.{take_over as dist_take_over, permit as dist_permit, get_nodes as dist_get_nodes}
use Rattle.rh_otp_dist.specs.Choosing.{start_here as dist_start_here, is_to_start as dist_is_to_start, find_start_node as dist_find_start_node, start_distributed as dist_start_distributed, start_appl as dist_start_appl}
use Rattle.rh_otp_dist.specs.Down.{check_waiting as dist_check_waiting, node_down as dist_node_down}
use Rattle.rh_otp_dist.specs.Outside.{introduced_to as dist_introduced_to}
use Rattle.rh_otp_dist.specs.Received.{handle_next as dist_handle_next}
use Rattle.rh_otp_dist.specs.Sending.{del_t_reqs as dist_del_t_reqs}
use Rattle.rh_otp_dist.specs.Told.{run as dist_run, answer_ends as dist_answer_ends, not_run as dist_not_run, stopped as dist_stopped, new_node as dist_new_node, answer_permits as dist_answer_permits, app_started as dist_app_started, app_stopped as dist_app_stopped, weight_told as dist_weight_told, restart as dist_restart, new_permission as dist_new_permission}
use Rattle.rh_otp_net.specs.Links.{to_connect as net_to_connect}
use Rattle.rh_otp_node.specs.Turns.{controlled_by as node_controlled_by, terminated_by as node_terminated_by, handled_by as node_handled_by, introduced_by as node_introduced_by}
use Rattle.rh_otp_system.specs.Calling.{lock_call as system_lock_call, wait_for_lock as system_wait_for_lock, behind_sync as system_behind_sync, go_on_call as system_go_on_call, call_received as system_call_received}
use Rattle.rh_otp_system.specs.Connecting.{connect as system_connect}
use Rattle.rh_otp_system.specs.Delivering.{delivered as system_delivered, slowed as system_slowed}
use Rattle.rh_otp_system.specs.Doing.{waited_for as system_waited_for, booted as system_booted, called as system_called, fired_next as system_fired_next, ticked as system_ticked, is_ticked as system_is_ticked}
use Rattle.rh_otp_system.specs.Ending.{down_told as system_down_told, taken_down as system_taken_down, ended as system_ended, stopped as system_stopped}
use Rattle.rh_otp_system.specs.Joining.{join as system_join, has_seen as system_has_seen, boot_next as system_boot_next}
use Rattle.rh_otp_system.specs.Moves.{made as system_made}
use Rattle.rh_otp_system.specs.Resting.{rested as system_rested, forgotten as system_forgotten}
use Rattle.rh_otp_system.specs.Sending.{told as system_told, after as system_after}
use Rattle.rh_otp_system.specs.Working.{take_lock as system_take_lock, gone as system_gone, handled as system_handled, work as system_work, mailed as system_mailed}
use Rattle.rh_otp_dist.specs.declared.state.Stand.TheVariants as stand
use Rattle.rh_otp_dist.specs.declared.state.Standing.TheVariants as standing
use Rattle.rh_otp_dist.specs.declared.state.Told.{Told}
use Rattle.rh_otp_dist.specs.Attempts.{has_app, without_told}
use Rattle.rh_otp_dist.specs.Choosing.{places_of, candidates_of, remote}
use Rattle.rh_otp_dist.specs.State.{DistView, beginning, is_among, standing_of}
use Rattle.rh_otp_model.specs.declared.message.Message.TheVariants as message
use Rattle.rh_otp_model.specs.declared.process.Role.TheVariants as role
use Rattle.rh_otp_model.specs.Own.{controls}
use Rattle.rh_otp_net.specs.declared.timers.Timer.{Timer}
use Rattle.rh_otp_net.specs.Timers.{next_due, fired}
use Rattle.rh_otp_crashes.specs.Failovers.{FailsOverAt, IsAble, IsFirst, IsOver, SeesAll, StandsBy, first_of, lost_attempt}
use Rattle.rh_agreement.specs.Laws.{ticking}
use Rattle.rh_agreement_failovers.proofs.RowsTrio.{a, b, c, web}
use Rattle.rh_agreement_failovers.proofs.RowsLost.{live_four}

abbrev pub awake : SystemView
awake = ticking 5000 live_four

abbrev pub dist_of : Node → DistView
dist_of n = unwrap_or (node_at awake n).dist (beginning 0 0 n [])

once : (one other : Node × ℕ) (p q : Bool) → (p ≡ true → q ≡ true → ⊥)
    → length (cond p (one ∷ cond q (other ∷ []) []) (cond q (other ∷ []) [])) ≤ 1
once one other true true both = absurd (both refl refl)
once one other true false both = omega arith
once one other false true both = omega arith
once one other false false both = omega arith

not_both : (k : ℕ) → (1 == k) ≡ true → (2 == k) ≡ true → ⊥
not_both k one two =
    let is_one : 1 ≡ k = eqb-true 1 k one in
    let is_two : 2 ≡ k = eqb-true 2 k two in
    omega (arith, is_one, is_two)

-- those of the second and of the third one
abbrev pub losses : List (Node × ℕ)
losses = (b, 1) ∷ (c, 1) ∷ []

-- a node has a dist_ac, which takes whatever comes, and it is in its first life
record IsThere (n : Node) : Type 0 where
  life : (node_at awake n).life ≡ 1
  has : is_some (node_at awake n).dist ≡ true
  takes_all : (dist_of n).stand ≡ stand.Idle

-- it has lost the application, and finds the second node to be the first that may run it
record HasLost (n : Node) : Type 0 where
  gone : standing_of (dist_of n) web ≡ standing.Failover a
  first : first_of (candidates_of (own_at awake n) (lost_attempt (dist_of n) web)) (places_of (own_at awake n) web) ≡ Some b
  unknown : remote (dist_of n) web ≡ None

second_there : IsThere b
unfolding controller_start controller_stop controller_permit controller_top_ends controller_do_start controller_change controller_received controller_spawn_starter controller_reply_to_requester controller_has_started controller_start_reply dist_finish dist_runs_elsewhere dist_take_over dist_permit dist_get_nodes dist_start_here dist_is_to_start dist_find_start_node dist_start_distributed dist_start_appl dist_check_waiting dist_node_down dist_introduced_to dist_handle_next dist_del_t_reqs dist_run dist_answer_ends dist_not_run dist_stopped dist_new_node dist_answer_permits dist_app_started dist_app_stopped dist_weight_told dist_restart dist_new_permission net_to_connect node_controlled_by node_terminated_by node_handled_by node_introduced_by system_lock_call system_wait_for_lock system_behind_sync system_go_on_call system_call_received system_connect system_delivered system_slowed system_waited_for system_booted system_called system_fired_next system_ticked system_is_ticked system_down_told system_taken_down system_ended system_stopped system_join system_has_seen system_boot_next system_made system_rested system_forgotten system_told system_after system_take_lock system_gone system_handled system_work system_mailed acted acted_at_once is_acted is_quiet_at_once
second_there = record { life = refl; has = refl; takes_all = refl }

third_there : IsThere c
unfolding controller_start controller_stop controller_permit controller_top_ends controller_do_start controller_change controller_received controller_spawn_starter controller_reply_to_requester controller_has_started controller_start_reply dist_finish dist_runs_elsewhere dist_take_over dist_permit dist_get_nodes dist_start_here dist_is_to_start dist_find_start_node dist_start_distributed dist_start_appl dist_check_waiting dist_node_down dist_introduced_to dist_handle_next dist_del_t_reqs dist_run dist_answer_ends dist_not_run dist_stopped dist_new_node dist_answer_permits dist_app_started dist_app_stopped dist_weight_told dist_restart dist_new_permission net_to_connect node_controlled_by node_terminated_by node_handled_by node_introduced_by system_lock_call system_wait_for_lock system_behind_sync system_go_on_call system_call_received system_connect system_delivered system_slowed system_waited_for system_booted system_called system_fired_next system_ticked system_is_ticked system_down_told system_taken_down system_ended system_stopped system_join system_has_seen system_boot_next system_made system_rested system_forgotten system_told system_after system_take_lock system_gone system_handled system_work system_mailed acted acted_at_once is_acted is_quiet_at_once
third_there = record { life = refl; has = refl; takes_all = refl }

second_lost : HasLost b
unfolding controller_start controller_stop controller_permit controller_top_ends controller_do_start controller_change controller_received controller_spawn_starter controller_reply_to_requester controller_has_started controller_start_reply dist_finish dist_runs_elsewhere dist_take_over dist_permit dist_get_nodes dist_start_here dist_is_to_start dist_find_start_node dist_start_distributed dist_start_appl dist_check_waiting dist_node_down dist_introduced_to dist_handle_next dist_del_t_reqs dist_run dist_answer_ends dist_not_run dist_stopped dist_new_node dist_answer_permits dist_app_started dist_app_stopped dist_weight_told dist_restart dist_new_permission net_to_connect node_controlled_by node_terminated_by node_handled_by node_introduced_by system_lock_call system_wait_for_lock system_behind_sync system_go_on_call system_call_received system_connect system_delivered system_slowed system_waited_for system_booted system_called system_fired_next system_ticked system_is_ticked system_down_told system_taken_down system_ended system_stopped system_join system_has_seen system_boot_next system_made system_rested system_forgotten system_told system_after system_take_lock system_gone system_handled system_work system_mailed acted acted_at_once is_acted is_quiet_at_once
second_lost = record { gone = refl; first = refl; unknown = refl }

third_lost : HasLost c
unfolding controller_start controller_stop controller_permit controller_top_ends controller_do_start controller_change controller_received controller_spawn_starter controller_reply_to_requester controller_has_started controller_start_reply dist_finish dist_runs_elsewhere dist_take_over dist_permit dist_get_nodes dist_start_here dist_is_to_start dist_find_start_node dist_start_distributed dist_start_appl dist_check_waiting dist_node_down dist_introduced_to dist_handle_next dist_del_t_reqs dist_run dist_answer_ends dist_not_run dist_stopped dist_new_node dist_answer_permits dist_app_started dist_app_stopped dist_weight_told dist_restart dist_new_permission net_to_connect node_controlled_by node_terminated_by node_handled_by node_introduced_by system_lock_call system_wait_for_lock system_behind_sync system_go_on_call system_call_received system_connect system_delivered system_slowed system_waited_for system_booted system_called system_fired_next system_ticked system_is_ticked system_down_told system_taken_down system_ended system_stopped system_join system_has_seen system_boot_next system_made system_rested system_forgotten system_told system_after system_take_lock system_gone system_handled system_work system_mailed acted acted_at_once is_acted is_quiet_at_once
third_lost = record { gone = refl; first = refl; unknown = refl }

has_it : (o : Option DistView) (d : DistView) → is_some o ≡ true → o ≡ Some (unwrap_or o d)
has_it None d is = absurd (false≢true is)
has_it (Some e) d is = refl

has_dist : (n : Node) → IsThere n → (node_at awake n).dist ≡ Some (dist_of n)
has_dist n is = has_it (node_at awake n).dist (beginning 0 0 n []) is.has

is_first : IsFirst (own_at awake b) b web (node_at awake b)
is_first = record {
  dist = dist_of b;
  has = has_dist b second_there;
  takes_all = second_there.takes_all;
  gone = a;
  lost = second_lost.gone;
  first = second_lost.first;
  unknown = second_lost.unknown;
}

is_able : IsAble awake.cluster (own_at awake b) b web (node_at awake b)
unfolding controller_start controller_stop controller_permit controller_top_ends controller_do_start controller_change controller_received controller_spawn_starter controller_reply_to_requester controller_has_started controller_start_reply dist_finish dist_runs_elsewhere dist_take_over dist_permit dist_get_nodes dist_start_here dist_is_to_start dist_find_start_node dist_start_distributed dist_start_appl dist_check_waiting dist_node_down dist_introduced_to dist_handle_next dist_del_t_reqs dist_run dist_answer_ends dist_not_run dist_stopped dist_new_node dist_answer_permits dist_app_started dist_app_stopped dist_weight_told dist_restart dist_new_permission net_to_connect node_controlled_by node_terminated_by node_handled_by node_introduced_by system_lock_call system_wait_for_lock system_behind_sync system_go_on_call system_call_received system_connect system_delivered system_slowed system_waited_for system_booted system_called system_fired_next system_ticked system_is_ticked system_down_told system_taken_down system_ended system_stopped system_join system_has_seen system_boot_next system_made system_rested system_forgotten system_told system_after system_take_lock system_gone system_handled system_work system_mailed acted acted_at_once is_acted is_quiet_at_once
is_able = record { needs = refl; requests = refl }

-- the second and the third one are alive, and see one another
sees : (k : ℕ) → is_alive_at awake (numbered k) ≡ true → (1 == k || are_linked b (numbered k) awake.links) ≡ true
unfolding controller_start controller_stop controller_permit controller_top_ends controller_do_start controller_change controller_received controller_spawn_starter controller_reply_to_requester controller_has_started controller_start_reply dist_finish dist_runs_elsewhere dist_take_over dist_permit dist_get_nodes dist_start_here dist_is_to_start dist_find_start_node dist_start_distributed dist_start_appl dist_check_waiting dist_node_down dist_introduced_to dist_handle_next dist_del_t_reqs dist_run dist_answer_ends dist_not_run dist_stopped dist_new_node dist_answer_permits dist_app_started dist_app_stopped dist_weight_told dist_restart dist_new_permission net_to_connect node_controlled_by node_terminated_by node_handled_by node_introduced_by system_lock_call system_wait_for_lock system_behind_sync system_go_on_call system_call_received system_connect system_delivered system_slowed system_waited_for system_booted system_called system_fired_next system_ticked system_is_ticked system_down_told system_taken_down system_ended system_stopped system_join system_has_seen system_boot_next system_made system_rested system_forgotten system_told system_after system_take_lock system_gone system_handled system_work system_mailed acted acted_at_once is_acted is_quiet_at_once
sees zero alive = absurd (false≢true alive)
sees (suc zero) alive = refl
sees (suc (suc zero)) alive = refl
sees (suc (suc (suc zero))) alive = absurd (false≢true alive)
sees (suc (suc (suc (suc k)))) alive = absurd (false≢true alive)

none_waits : (dist_of b).t_reqs ≡ []
unfolding controller_start controller_stop controller_permit controller_top_ends controller_do_start controller_change controller_received controller_spawn_starter controller_reply_to_requester controller_has_started controller_start_reply dist_finish dist_runs_elsewhere dist_take_over dist_permit dist_get_nodes dist_start_here dist_is_to_start dist_find_start_node dist_start_distributed dist_start_appl dist_check_waiting dist_node_down dist_introduced_to dist_handle_next dist_del_t_reqs dist_run dist_answer_ends dist_not_run dist_stopped dist_new_node dist_answer_permits dist_app_started dist_app_stopped dist_weight_told dist_restart dist_new_permission net_to_connect node_controlled_by node_terminated_by node_handled_by node_introduced_by system_lock_call system_wait_for_lock system_behind_sync system_go_on_call system_call_received system_connect system_delivered system_slowed system_waited_for system_booted system_called system_fired_next system_ticked system_is_ticked system_down_told system_taken_down system_ended system_stopped system_join system_has_seen system_boot_next system_made system_rested system_forgotten system_told system_after system_take_lock system_gone system_handled system_work system_mailed acted acted_at_once is_acted is_quiet_at_once
none_waits = refl

sees_all : SeesAll b awake
sees_all = record {
  takeovers = λ d has. ap (λ (x : DistView). x.t_reqs) (same_Some d (dist_of b) (sym has ∙ has_dist b second_there)) ∙ none_waits;
  sees = λ d has m among alive. sees m.0 alive;
}

third_among : is_among c (candidates_of (own_at awake c) (lost_attempt (dist_of c) web)) ≡ true
unfolding controller_start controller_stop controller_permit controller_top_ends controller_do_start controller_change controller_received controller_spawn_starter controller_reply_to_requester controller_has_started controller_start_reply dist_finish dist_runs_elsewhere dist_take_over dist_permit dist_get_nodes dist_start_here dist_is_to_start dist_find_start_node dist_start_distributed dist_start_appl dist_check_waiting dist_node_down dist_introduced_to dist_handle_next dist_del_t_reqs dist_run dist_answer_ends dist_not_run dist_stopped dist_new_node dist_answer_permits dist_app_started dist_app_stopped dist_weight_told dist_restart dist_new_permission net_to_connect node_controlled_by node_terminated_by node_handled_by node_introduced_by system_lock_call system_wait_for_lock system_behind_sync system_go_on_call system_call_received system_connect system_delivered system_slowed system_waited_for system_booted system_called system_fired_next system_ticked system_is_ticked system_down_told system_taken_down system_ended system_stopped system_join system_has_seen system_boot_next system_made system_rested system_forgotten system_told system_after system_take_lock system_gone system_handled system_work system_mailed acted acted_at_once is_acted is_quiet_at_once
third_among = refl

third_started : (controls (own_at awake c) web && has_app web (dist_of c).started) ≡ true
unfolding controller_start controller_stop controller_permit controller_top_ends controller_do_start controller_change controller_received controller_spawn_starter controller_reply_to_requester controller_has_started controller_start_reply dist_finish dist_runs_elsewhere dist_take_over dist_permit dist_get_nodes dist_start_here dist_is_to_start dist_find_start_node dist_start_distributed dist_start_appl dist_check_waiting dist_node_down dist_introduced_to dist_handle_next dist_del_t_reqs dist_run dist_answer_ends dist_not_run dist_stopped dist_new_node dist_answer_permits dist_app_started dist_app_stopped dist_weight_told dist_restart dist_new_permission net_to_connect node_controlled_by node_terminated_by node_handled_by node_introduced_by system_lock_call system_wait_for_lock system_behind_sync system_go_on_call system_call_received system_connect system_delivered system_slowed system_waited_for system_booted system_called system_fired_next system_ticked system_is_ticked system_down_told system_taken_down system_ended system_stopped system_join system_has_seen system_boot_next system_made system_rested system_forgotten system_told system_after system_take_lock system_gone system_handled system_work system_mailed acted acted_at_once is_acted is_quiet_at_once
third_started = refl

third_untold : (dist_of c).tmp_locals ≡ []
unfolding controller_start controller_stop controller_permit controller_top_ends controller_do_start controller_change controller_received controller_spawn_starter controller_reply_to_requester controller_has_started controller_start_reply dist_finish dist_runs_elsewhere dist_take_over dist_permit dist_get_nodes dist_start_here dist_is_to_start dist_find_start_node dist_start_distributed dist_start_appl dist_check_waiting dist_node_down dist_introduced_to dist_handle_next dist_del_t_reqs dist_run dist_answer_ends dist_not_run dist_stopped dist_new_node dist_answer_permits dist_app_started dist_app_stopped dist_weight_told dist_restart dist_new_permission net_to_connect node_controlled_by node_terminated_by node_handled_by node_introduced_by system_lock_call system_wait_for_lock system_behind_sync system_go_on_call system_call_received system_connect system_delivered system_slowed system_waited_for system_booted system_called system_fired_next system_ticked system_is_ticked system_down_told system_taken_down system_ended system_stopped system_join system_has_seen system_boot_next system_made system_rested system_forgotten system_told system_after system_take_lock system_gone system_handled system_work system_mailed acted acted_at_once is_acted is_quiet_at_once
third_untold = refl

third_unmonitored : is_among b (dist_of c).monitored ≡ false
unfolding controller_start controller_stop controller_permit controller_top_ends controller_do_start controller_change controller_received controller_spawn_starter controller_reply_to_requester controller_has_started controller_start_reply dist_finish dist_runs_elsewhere dist_take_over dist_permit dist_get_nodes dist_start_here dist_is_to_start dist_find_start_node dist_start_distributed dist_start_appl dist_check_waiting dist_node_down dist_introduced_to dist_handle_next dist_del_t_reqs dist_run dist_answer_ends dist_not_run dist_stopped dist_new_node dist_answer_permits dist_app_started dist_app_stopped dist_weight_told dist_restart dist_new_permission net_to_connect node_controlled_by node_terminated_by node_handled_by node_introduced_by system_lock_call system_wait_for_lock system_behind_sync system_go_on_call system_call_received system_connect system_delivered system_slowed system_waited_for system_booted system_called system_fired_next system_ticked system_is_ticked system_down_told system_taken_down system_ended system_stopped system_join system_has_seen system_boot_next system_made system_rested system_forgotten system_told system_after system_take_lock system_gone system_handled system_work system_mailed acted acted_at_once is_acted is_quiet_at_once
third_unmonitored = refl

second_alive : is_alive_at awake b ≡ true
unfolding controller_start controller_stop controller_permit controller_top_ends controller_do_start controller_change controller_received controller_spawn_starter controller_reply_to_requester controller_has_started controller_start_reply dist_finish dist_runs_elsewhere dist_take_over dist_permit dist_get_nodes dist_start_here dist_is_to_start dist_find_start_node dist_start_distributed dist_start_appl dist_check_waiting dist_node_down dist_introduced_to dist_handle_next dist_del_t_reqs dist_run dist_answer_ends dist_not_run dist_stopped dist_new_node dist_answer_permits dist_app_started dist_app_stopped dist_weight_told dist_restart dist_new_permission net_to_connect node_controlled_by node_terminated_by node_handled_by node_introduced_by system_lock_call system_wait_for_lock system_behind_sync system_go_on_call system_call_received system_connect system_delivered system_slowed system_waited_for system_booted system_called system_fired_next system_ticked system_is_ticked system_down_told system_taken_down system_ended system_stopped system_join system_has_seen system_boot_next system_made system_rested system_forgotten system_told system_after system_take_lock system_gone system_handled system_work system_mailed acted acted_at_once is_acted is_quiet_at_once
second_alive = refl

third_sees : are_linked c b awake.links ≡ true
unfolding controller_start controller_stop controller_permit controller_top_ends controller_do_start controller_change controller_received controller_spawn_starter controller_reply_to_requester controller_has_started controller_start_reply dist_finish dist_runs_elsewhere dist_take_over dist_permit dist_get_nodes dist_start_here dist_is_to_start dist_find_start_node dist_start_distributed dist_start_appl dist_check_waiting dist_node_down dist_introduced_to dist_handle_next dist_del_t_reqs dist_run dist_answer_ends dist_not_run dist_stopped dist_new_node dist_answer_permits dist_app_started dist_app_stopped dist_weight_told dist_restart dist_new_permission net_to_connect node_controlled_by node_terminated_by node_handled_by node_introduced_by system_lock_call system_wait_for_lock system_behind_sync system_go_on_call system_call_received system_connect system_delivered system_slowed system_waited_for system_booted system_called system_fired_next system_ticked system_is_ticked system_down_told system_taken_down system_ended system_stopped system_join system_has_seen system_boot_next system_made system_rested system_forgotten system_told system_after system_take_lock system_gone system_handled system_work system_mailed acted acted_at_once is_acted is_quiet_at_once
third_sees = refl

pub first_down : is_alive_at awake a ≡ false
unfolding controller_start controller_stop controller_permit controller_top_ends controller_do_start controller_change controller_received controller_spawn_starter controller_reply_to_requester controller_has_started controller_start_reply dist_finish dist_runs_elsewhere dist_take_over dist_permit dist_get_nodes dist_start_here dist_is_to_start dist_find_start_node dist_start_distributed dist_start_appl dist_check_waiting dist_node_down dist_introduced_to dist_handle_next dist_del_t_reqs dist_run dist_answer_ends dist_not_run dist_stopped dist_new_node dist_answer_permits dist_app_started dist_app_stopped dist_weight_told dist_restart dist_new_permission net_to_connect node_controlled_by node_terminated_by node_handled_by node_introduced_by system_lock_call system_wait_for_lock system_behind_sync system_go_on_call system_call_received system_connect system_delivered system_slowed system_waited_for system_booted system_called system_fired_next system_ticked system_is_ticked system_down_told system_taken_down system_ended system_stopped system_join system_has_seen system_boot_next system_made system_rested system_forgotten system_told system_after system_take_lock system_gone system_handled system_work system_mailed acted acted_at_once is_acted is_quiet_at_once
first_down = refl

-- no other one is alive
pub no_more : (k : ℕ) → is_alive_at awake (numbered (suc (suc (suc k)))) ≡ false
unfolding controller_start controller_stop controller_permit controller_top_ends controller_do_start controller_change controller_received controller_spawn_starter controller_reply_to_requester controller_has_started controller_start_reply dist_finish dist_runs_elsewhere dist_take_over dist_permit dist_get_nodes dist_start_here dist_is_to_start dist_find_start_node dist_start_distributed dist_start_appl dist_check_waiting dist_node_down dist_introduced_to dist_handle_next dist_del_t_reqs dist_run dist_answer_ends dist_not_run dist_stopped dist_new_node dist_answer_permits dist_app_started dist_app_stopped dist_weight_told dist_restart dist_new_permission net_to_connect node_controlled_by node_terminated_by node_handled_by node_introduced_by system_lock_call system_wait_for_lock system_behind_sync system_go_on_call system_call_received system_connect system_delivered system_slowed system_waited_for system_booted system_called system_fired_next system_ticked system_is_ticked system_down_told system_taken_down system_ended system_stopped system_join system_has_seen system_boot_next system_made system_rested system_forgotten system_told system_after system_take_lock system_gone system_handled system_work system_mailed acted acted_at_once is_acted is_quiet_at_once
no_more zero = refl
no_more (suc k) = refl

stands_by : StandsBy c b web awake
stands_by = record {
  standby = record {
    dist = dist_of c;
    has = has_dist c third_there;
    takes_all = third_there.takes_all;
    gone = a;
    lost = third_lost.gone;
    among = third_among;
    waits = third_lost.first;
    started = third_started;
    unknown = third_lost.unknown;
    untold = subst (λ (l : List Told). without_told web l ≡ l) (sym third_untold) refl;
    unmonitored = third_unmonitored;
  };
  alive = second_alive;
  sees = third_sees;
}

only_third : (k : ℕ) → k ≢ 1 → is_alive_at awake (numbered k) ≡ true
    → StandsBy (numbered k) b web awake ⊎ IsOver web (node_at awake (numbered k))
only_third zero other alive = absurd (false≢true (sym first_down ∙ alive))
only_third (suc zero) other alive = absurd (other refl)
only_third (suc (suc zero)) other alive = inl stands_by
only_third (suc (suc (suc k))) other alive = absurd (false≢true (sym (no_more k) ∙ alive))

-- the timer of a node in its first life
abbrev loss_at : Node → Timer
loss_at n = record {
  due = 5000;
  step = 4;
  to = record { role = role.DistAc; node = n; life = 1 };
  message = message.RestartAppl web 1;
}

next_is : next_due awake.timers ≡ Some (5000, 4)
unfolding controller_start controller_stop controller_permit controller_top_ends controller_do_start controller_change controller_received controller_spawn_starter controller_reply_to_requester controller_has_started controller_start_reply dist_finish dist_runs_elsewhere dist_take_over dist_permit dist_get_nodes dist_start_here dist_is_to_start dist_find_start_node dist_start_distributed dist_start_appl dist_check_waiting dist_node_down dist_introduced_to dist_handle_next dist_del_t_reqs dist_run dist_answer_ends dist_not_run dist_stopped dist_new_node dist_answer_permits dist_app_started dist_app_stopped dist_weight_told dist_restart dist_new_permission net_to_connect node_controlled_by node_terminated_by node_handled_by node_introduced_by system_lock_call system_wait_for_lock system_behind_sync system_go_on_call system_call_received system_connect system_delivered system_slowed system_waited_for system_booted system_called system_fired_next system_ticked system_is_ticked system_down_told system_taken_down system_ended system_stopped system_join system_has_seen system_boot_next system_made system_rested system_forgotten system_told system_after system_take_lock system_gone system_handled system_work system_mailed acted acted_at_once is_acted is_quiet_at_once
next_is = refl

fire_is : fired awake.timers ≡ loss_at b ∷ loss_at c ∷ []
unfolding controller_start controller_stop controller_permit controller_top_ends controller_do_start controller_change controller_received controller_spawn_starter controller_reply_to_requester controller_has_started controller_start_reply dist_finish dist_runs_elsewhere dist_take_over dist_permit dist_get_nodes dist_start_here dist_is_to_start dist_find_start_node dist_start_distributed dist_start_appl dist_check_waiting dist_node_down dist_introduced_to dist_handle_next dist_del_t_reqs dist_run dist_answer_ends dist_not_run dist_stopped dist_new_node dist_answer_permits dist_app_started dist_app_stopped dist_weight_told dist_restart dist_new_permission net_to_connect node_controlled_by node_terminated_by node_handled_by node_introduced_by system_lock_call system_wait_for_lock system_behind_sync system_go_on_call system_call_received system_connect system_delivered system_slowed system_waited_for system_booted system_called system_fired_next system_ticked system_is_ticked system_down_told system_taken_down system_ended system_stopped system_join system_has_seen system_boot_next system_made system_rested system_forgotten system_told system_after system_take_lock system_gone system_handled system_work system_mailed acted acted_at_once is_acted is_quiet_at_once
fire_is = refl

-- so they are with these lives
abbrev fires_at : ℕ → ℕ → List Timer
fires_at one other =
    record { due = 5000; step = 4; to = record { role = role.DistAc; node = b; life = one }; message = message.RestartAppl web 1 }
    ∷ record { due = 5000; step = 4; to = record { role = role.DistAc; node = c; life = other }; message = message.RestartAppl web 1 } ∷ []

pub fails : FailsOverAt b web awake
fails = record {
  due = 5000;
  step = 4;
  next = next_is;
  losses = losses;
  fire = fire_is ∙ (λ i. fires_at (sym second_there.life i) (sym third_there.life i));
  once = λ m. once (b, 1) (c, 1) (1 == m.0) (2 == m.0) (not_both m.0);
  first = is_first;
  able = is_able;
  sees_all = sees_all;
  others = λ m other among alive. only_third m.0 other alive;
}

-- what it says of the timers, and of the node that was lost
pub due_is : fails.due ≡ 5000
unfolding fails
due_is = refl

pub losses_are : fails.losses ≡ losses
unfolding fails
losses_are = refl

pub gone_is : fails.first.gone ≡ a
unfolding fails is_first
gone_is = refl

pub dist_is : fails.first.dist ≡ dist_of b
unfolding fails is_first
dist_is = refl
