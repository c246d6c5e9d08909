-- A node that the laws are of: of two nodes that were up one has crashed, and comes back to the other one.
use Rattle.std.proofs.Common.{◌≡◌, ◌||◌, ℕ, zero, suc, true, false, [], ◌∷◌, is_some, Option, Some, None, refl, sym, ap, subst, ◌∙◌, arith}
use Rattle.std.proofs.lemmas.Bool.{false≢true, ne_eqb}
use Rattle.rh_model.specs.ClusterView.{mandatory_of, optional_of, is_in}
use Rattle.rh_model.specs.declared.node.Node.{Node}
use Rattle.rh_otp_model.specs.declared.wait.Wait.TheVariants as wait
use Rattle.rh_otp_controller.specs.Calls.{start as controller_start, stop as controller_stop, permit as controller_permit, top_ends as controller_top_ends}
use Rattle.rh_otp_controller.specs.Changes.{do_start as controller_do_start, change as controller_change, received as controller_received}
use Rattle.rh_otp_controller.specs.Starting.{spawn_starter as controller_spawn_starter, reply_to_requester as controller_reply_to_requester, has_started as controller_has_started, start_reply as controller_start_reply}
use Rattle.rh_otp_dist.specs.Attempts.{finish as dist_finish, runs_elsewhere as dist_runs_elsewhere}
use Rattle.rh_otp_dist.specs.Calls.{take_over as dist_take_over, permit as dist_permit, get_nodes as dist_get_nodes}
use Rattle.rh_otp_dist.specs.Choosing.{start_here as dist_start_here, is_to_start as dist_is_to_start, find_start_node as dist_find_start_node, start_distributed as dist_start_distributed, start_appl as dist_start_appl}
use Rattle.rh_otp_dist.specs.Down.{check_waiting as dist_check_waiting, node_down as dist_node_down}
use Rattle.rh_otp_dist.specs.Outside.{introduced_to as dist_introduced_to}
use Rattle.rh_otp_dist.specs.Received.{handle_next as dist_handle_next}
use Rattle.rh_otp_dist.specs.Sending.{del_t_reqs as dist_del_t_reqs}
use Rattle.rh_otp_dist.specs.Told.{run as dist_run, answer_ends as dist_answer_ends, not_run as dist_not_run, stopped as dist_stopped, new_node as dist_new_node, answer_permits as dist_answer_permits, app_started as dist_app_started, app_stopped as dist_app_stopped, weight_told as dist_weight_told, restart as dist_restart, new_permission as dist_new_permission}
use Rattle.rh_otp_net.specs.Links.{to_connect as net_to_connect}
use Rattle.rh_otp_node.specs.Turns.{controlled_by as node_controlled_by, terminated_by as node_terminated_by, handled_by as node_handled_by, introduced_by as node_introduced_by}
use Rattle.rh_otp_system.specs.Calling.{lock_call as system_lock_call, wait_for_lock as system_wait_for_lock, behind_sync as system_behind_sync, go_on_call as system_go_on_call, call_received as system_call_received}
use Rattle.rh_otp_system.specs.Connecting.{connect as system_connect}
use Rattle.rh_otp_system.specs.Delivering.{delivered as system_delivered, slowed as system_slowed}
use Rattle.rh_otp_system.specs.Doing.{waited_for as system_waited_for, booted as system_booted, called as system_called, fired_next as system_fired_next, ticked as system_ticked, is_ticked as system_is_ticked}
use Rattle.rh_otp_system.specs.Ending.{down_told as system_down_told, taken_down as system_taken_down, ended as system_ended, stopped as system_stopped}
use Rattle.rh_otp_system.specs.Joining.{join as system_join, has_seen as system_has_seen, boot_next as system_boot_next}
use Rattle.rh_otp_system.specs.Moves.{made as system_made}
use Rattle.rh_otp_system.specs.Resting.{rested as system_rested, forgotten as system_forgotten}
use Rattle.rh_otp_system.specs.Sending.{told as system_told, after as system_after}
use Rattle.rh_otp_system.specs.Working.{take_lock as system_take_lock, gone as system_gone, handled as system_handled, work as system_work, mailed as system_mailed}
use Rattle.rh_otp_dist.specs.declared.state.Stand.TheVariants as stand
use Rattle.rh_otp_dist.specs.State.{DistView}
use Rattle.rh_otp_net.specs.declared.order.Order.TheVariants.{FirstComes}
use Rattle.rh_otp_node.specs.Live.{LiveView}
use Rattle.rh_otp_system.specs.Moves.{is_settled_by}
use Rattle.rh_otp_system.specs.Resting.{crashed}
use Rattle.rh_otp_system.specs.State.{SystemView, node_at, live_at, wait_at, is_alive_at, is_up_at}
use Rattle.rh_otp_system.proofs.Moving.{settles}
use Rattle.rh_otp_laws.specs.Acting.{IsReached, later, acts, crashes}
use Rattle.rh_otp_laws.proofs.Commands.{commands_reached}
use Rattle.rh_otp_crashes.specs.Crashes.{IsUnoccupied, AreAtRest}
use Rattle.rh_otp_locks.specs.Holding.{stand_at}
use Rattle.rh_otp_stops.proofs.Rows.{n1, n2, both_up, quiet, IsThere, at_rest, row as both_row}
use Rattle.rh_otp_waits.specs.Waits.{HasItWait}
use Rattle.rh_otp_joins.specs.Joins.{ComesBack}

-- the second node has crashed, and all that came of it
abbrev pub one_left : SystemView
one_left = quiet (crashed n2 both_up)

-- ---- what the prover computes of it

record Left (s : SystemView) : Type 0 where
  up : is_up_at s n1 ≡ true
  idle : stand_at s n1 ≡ Some stand.Idle
  there : is_some (live_at s n2) ≡ true
  down : is_alive_at s n2 ≡ false
  waits : wait_at s n2 ≡ wait.After 12000
  mandatory : mandatory_of s.cluster n2 ≡ []
  optional : optional_of s.cluster n2 ≡ n1 ∷ []
  calls : s.calls ≡ []

first_there : IsThere n1 one_left
unfolding controller_start controller_stop controller_permit controller_top_ends controller_do_start controller_change controller_received controller_spawn_starter controller_reply_to_requester controller_has_started controller_start_reply dist_finish dist_runs_elsewhere dist_take_over dist_permit dist_get_nodes dist_start_here dist_is_to_start dist_find_start_node dist_start_distributed dist_start_appl dist_check_waiting dist_node_down dist_introduced_to dist_handle_next dist_del_t_reqs dist_run dist_answer_ends dist_not_run dist_stopped dist_new_node dist_answer_permits dist_app_started dist_app_stopped dist_weight_told dist_restart dist_new_permission net_to_connect node_controlled_by node_terminated_by node_handled_by node_introduced_by system_lock_call system_wait_for_lock system_behind_sync system_go_on_call system_call_received system_connect system_delivered system_slowed system_waited_for system_booted system_called system_fired_next system_ticked system_is_ticked system_down_told system_taken_down system_ended system_stopped system_join system_has_seen system_boot_next system_made system_rested system_forgotten system_told system_after system_take_lock system_gone system_handled system_work system_mailed
first_there = record { alive = refl; has = refl; takes_all = refl; mail = refl; permits = refl; parked = refl }

left : Left one_left
unfolding controller_start controller_stop controller_permit controller_top_ends controller_do_start controller_change controller_received controller_spawn_starter controller_reply_to_requester controller_has_started controller_start_reply dist_finish dist_runs_elsewhere dist_take_over dist_permit dist_get_nodes dist_start_here dist_is_to_start dist_find_start_node dist_start_distributed dist_start_appl dist_check_waiting dist_node_down dist_introduced_to dist_handle_next dist_del_t_reqs dist_run dist_answer_ends dist_not_run dist_stopped dist_new_node dist_answer_permits dist_app_started dist_app_stopped dist_weight_told dist_restart dist_new_permission net_to_connect node_controlled_by node_terminated_by node_handled_by node_introduced_by system_lock_call system_wait_for_lock system_behind_sync system_go_on_call system_call_received system_connect system_delivered system_slowed system_waited_for system_booted system_called system_fired_next system_ticked system_is_ticked system_down_told system_taken_down system_ended system_stopped system_join system_has_seen system_boot_next system_made system_rested system_forgotten system_told system_after system_take_lock system_gone system_handled system_work system_mailed
left = record {
  up = refl;
  idle = refl;
  there = refl;
  down = refl;
  waits = refl;
  mandatory = refl;
  optional = refl;
  calls = refl;
}

no_more : (k : ℕ) → is_alive_at one_left (record { 0 = suc (suc k) }) ≡ false
unfolding controller_start controller_stop controller_permit controller_top_ends controller_do_start controller_change controller_received controller_spawn_starter controller_reply_to_requester controller_has_started controller_start_reply dist_finish dist_runs_elsewhere dist_take_over dist_permit dist_get_nodes dist_start_here dist_is_to_start dist_find_start_node dist_start_distributed dist_start_appl dist_check_waiting dist_node_down dist_introduced_to dist_handle_next dist_del_t_reqs dist_run dist_answer_ends dist_not_run dist_stopped dist_new_node dist_answer_permits dist_app_started dist_app_stopped dist_weight_told dist_restart dist_new_permission net_to_connect node_controlled_by node_terminated_by node_handled_by node_introduced_by system_lock_call system_wait_for_lock system_behind_sync system_go_on_call system_call_received system_connect system_delivered system_slowed system_waited_for system_booted system_called system_fired_next system_ticked system_is_ticked system_down_told system_taken_down system_ended system_stopped system_join system_has_seen system_boot_next system_made system_rested system_forgotten system_told system_after system_take_lock system_gone system_handled system_work system_mailed
no_more zero = refl
no_more (suc k) = refl

is_quiet : is_settled_by 1000 FirstComes (crashed n2 both_up) ≡ true
unfolding controller_start controller_stop controller_permit controller_top_ends controller_do_start controller_change controller_received controller_spawn_starter controller_reply_to_requester controller_has_started controller_start_reply dist_finish dist_runs_elsewhere dist_take_over dist_permit dist_get_nodes dist_start_here dist_is_to_start dist_find_start_node dist_start_distributed dist_start_appl dist_check_waiting dist_node_down dist_introduced_to dist_handle_next dist_del_t_reqs dist_run dist_answer_ends dist_not_run dist_stopped dist_new_node dist_answer_permits dist_app_started dist_app_stopped dist_weight_told dist_restart dist_new_permission net_to_connect node_controlled_by node_terminated_by node_handled_by node_introduced_by system_lock_call system_wait_for_lock system_behind_sync system_go_on_call system_call_received system_connect system_delivered system_slowed system_waited_for system_booted system_called system_fired_next system_ticked system_is_ticked system_down_told system_taken_down system_ended system_stopped system_join system_has_seen system_boot_next system_made system_rested system_forgotten system_told system_after system_take_lock system_gone system_handled system_work system_mailed
is_quiet = refl

-- ---- so the laws are of it

is_there : (o : Option LiveView) → is_some o ≡ true → (v : LiveView) × (o ≡ Some v)
is_there None is = absurd (false≢true is)
is_there (Some v) is = (v, refl)

-- the first node alone is alive
alone : (P : Node → Type 0) → P n1 → (k : ℕ) → is_alive_at one_left (record { 0 = k }) ≡ true → P (record { 0 = k })
alone P first zero alive = first
alone P first (suc zero) alive = absurd (false≢true (sym left.down ∙ alive))
alone P first (suc (suc k)) alive = absurd (false≢true (sym (no_more k) ∙ alive))

listed : (k : ℕ) → (is_in (record { 0 = k }) [] || is_in (record { 0 = k }) (n1 ∷ [])) ≡ is_alive_at one_left (record { 0 = k })
listed zero = sym first_there.alive
listed (suc zero) = sym left.down
listed (suc (suc k)) = ap (λ c. c || false) (ne_eqb (suc (suc k)) 0 (λ is. omega (arith, is))) ∙ sym (no_more k)

rests : AreAtRest one_left
rests = record {
  settled = (settles 1000 FirstComes (crashed n2 both_up)).1 is_quiet;
  calls = left.calls;
  dists = λ n d alive has.
      alone (λ (m : Node). (e : DistView) → (node_at one_left m).dist ≡ Some e → IsUnoccupied e) (at_rest one_left n1 first_there) n.0 alive d has;
}

-- There is such a node.
pub record Row : Type 0 where
  is_reached : IsReached one_left
  is_at_rest : AreAtRest one_left
  comes_back : ComesBack n2 one_left

pub row : Row
row = record {
  is_reached = commands_reached.settles_there 1000 FirstComes (crashed n2 both_up)
      (later both_up (crashed n2 both_up) both_row.is_reached (acts both_up (crashed n2 both_up) (crashes both_up n2)));
  is_at_rest = rests;
  comes_back = record {
    there = is_there (live_at one_left n2) left.there;
    down = left.down;
    waits = subst HasItWait (sym left.waits) (omega arith);
    listed = λ m. (λ i. is_in m (left.mandatory i) || is_in m (left.optional i)) ∙ listed m.0;
    up = λ m alive. alone (λ (k : Node). is_up_at one_left k ≡ true) left.up m.0 alive;
    ready = λ m alive has. alone (λ (k : Node). stand_at one_left k ≡ Some stand.Idle) left.idle m.0 alive;
    sees = λ m o alive alive_too differ.
        absurd (differ (alone (λ (k : Node). k.0 ≡ 0) refl m.0 alive ∙ sym (alone (λ (k : Node). k.0 ≡ 0) refl o.0 alive_too)));
  };
}
