-- A tick over a failover and a timer that is left over of another loss. Of two nodes the one at which two applications ran has crashed, and
-- at the other one an operator has stopped and started the one. So it runs before its timer fires, and that changes nothing.
use Rattle.std.proofs.Common.{◌≡◌, zero, suc, true, false, [], ◌∷◌, Some, refl, sym, subst}
use Rattle.std.specs.Prelude.{All}
use Rattle.std.proofs.lemmas.List.Elements.{All-nil, All-cons}
use Rattle.rh_model.specs.declared.settings.Restart.TheVariants.{Permanent}
use Rattle.rh_otp_model.specs.Rows.{keyfind}
use Rattle.rh_otp_controller.specs.Calls.{start as controller_start, stop as controller_stop, permit as controller_permit, top_ends as controller_top_ends}
use Rattle.rh_otp_controller.specs.Changes.{do_start as controller_do_start, change as controller_change, received as controller_received}
use Rattle.rh_otp_controller.specs.Starting.{spawn_starter as controller_spawn_starter, reply_to_requester as controller_reply_to_requester, has_started as controller_has_started, start_reply as controller_start_reply}
use Rattle.rh_otp_dist.specs.Attempts.{finish as dist_finish, runs_elsewhere as dist_runs_elsewhere}
use Rattle.rh_otp_dist.specs.Calls.{take_over as dist_take_over, permit as dist_permit, get_nodes as dist_get_nodes}
use Rattle.rh_otp_dist.specs.Choosing.{start_here as dist_start_here, is_to_start as dist_is_to_start, find_start_node as dist_find_start_node, start_distributed as dist_start_distributed, start_appl as dist_start_appl}
use Rattle.rh_otp_dist.specs.Down.{check_waiting as dist_check_waiting, node_down as dist_node_down}
use Rattle.rh_otp_dist.specs.Outside.{introduced_to as dist_introduced_to}
use Rattle.rh_otp_dist.specs.Received.{handle_next as dist_handle_next}
use Rattle.rh_otp_dist.specs.Sending.{del_t_reqs as dist_del_t_reqs}
use Rattle.rh_otp_dist.specs.Told.{run as dist_run, answer_ends as dist_answer_ends, not_run as dist_not_run, stopped as dist_stopped, new_node as dist_new_node, answer_permits as dist_answer_permits, app_started as dist_app_started, app_stopped as dist_app_stopped, weight_told as dist_weight_told, restart as dist_restart, new_permission as dist_new_permission}
use Rattle.rh_otp_net.specs.Links.{to_connect as net_to_connect}
use Rattle.rh_otp_node.specs.Turns.{controlled_by as node_controlled_by, terminated_by as node_terminated_by, handled_by as node_handled_by, introduced_by as node_introduced_by}
use Rattle.rh_otp_system.specs.Calling.{lock_call as system_lock_call, wait_for_lock as system_wait_for_lock, behind_sync as system_behind_sync, go_on_call as system_go_on_call, call_received as system_call_received}
use Rattle.rh_otp_system.specs.Connecting.{connect as system_connect}
use Rattle.rh_otp_system.specs.Delivering.{delivered as system_delivered, slowed as system_slowed}
use Rattle.rh_otp_system.specs.Doing.{waited_for as system_waited_for, booted as system_booted, called as system_called, fired_next as system_fired_next, ticked as system_ticked, is_ticked as system_is_ticked}
use Rattle.rh_otp_system.specs.Ending.{down_told as system_down_told, taken_down as system_taken_down, ended as system_ended, stopped as system_stopped}
use Rattle.rh_otp_system.specs.Joining.{join as system_join, has_seen as system_has_seen, boot_next as system_boot_next}
use Rattle.rh_otp_system.specs.Moves.{made as system_made}
use Rattle.rh_otp_system.specs.Resting.{rested as system_rested, forgotten as system_forgotten}
use Rattle.rh_otp_system.specs.Sending.{told as system_told, after as system_after}
use Rattle.rh_otp_system.specs.Working.{take_lock as system_take_lock, gone as system_gone, handled as system_handled, work as system_work, mailed as system_mailed}
use Rattle.rh_otp_controller.specs.declared.state.Place.TheVariants.{Here}
use Rattle.rh_otp_dist.specs.declared.state.Stand.TheVariants as stand
use Rattle.rh_otp_dist.specs.declared.state.Standing.TheVariants as standing
use Rattle.rh_otp_dist.specs.State.{DistView, standing_of}
use Rattle.rh_otp_net.specs.declared.order.Order.TheVariants.{FirstComes}
use Rattle.rh_otp_net.specs.Timers.{next_due, fired}
use Rattle.rh_otp_system.specs.declared.calls.Ask.{Ask}
use Rattle.rh_otp_system.specs.declared.calls.Ask.TheVariants as ask
use Rattle.rh_otp_system.specs.Doing.{called, fired_next}
use Rattle.rh_otp_system.specs.Moves.{IsSettled, is_settled_by}
use Rattle.rh_otp_system.specs.Resting.{forgotten}
use Rattle.rh_otp_system.specs.State.{SystemView, node_at}
use Rattle.rh_otp_laws.specs.Acting.{IsReached, later, acts, calls, forgets}
use Rattle.rh_otp_laws.proofs.Commands.{commands_reached}
use Rattle.rh_otp_commands.specs.Commands.{TickEndsAlike}
use Rattle.rh_otp_crashes.specs.Failovers.{is_failover}
use Rattle.rh_otp_ticks.specs.LeftOver.{AreLeftOver, IsLeftOver, not_lost, behind_timers}
use Rattle.rh_otp_ticks.specs.Moments.{passing, EachMomentIsCovered, left_over}
use Rattle.rh_otp_ticks.proofs.Rows.{n1, n2, d1, d2, quiet, lost, dist_of, loss_of, IsIdle, IsLost, IsAlone, AreOver, of_dist, at_ease, fails_on, waits_on, rest_so, lost_reached}
use Rattle.rh_otp_ticks.proofs.Ticking.{moments_alike}

-- an operator calls at the second node, in a command of its own
abbrev asked : Ask → SystemView → SystemView
asked what s = quiet (called what n2 d2 (forgotten s))

-- the application is stopped there, and started again; and the next command begins
abbrev stopped : SystemView
stopped = asked ask.Stop lost

abbrev again : SystemView
again = forgotten (asked (ask.Start Permanent) stopped)

-- time begins to pass, and behind each of the first two moments
abbrev first : SystemView
first = passing again

abbrev second : SystemView
second = quiet (fired_next 5000 first)

abbrev third : SystemView
third = record (behind_timers 7000 second) { answers = [] }

-- ---- what the prover computes of it

first_lost : IsLost d1 5000 first
unfolding controller_start controller_stop controller_permit controller_top_ends controller_do_start controller_change controller_received controller_spawn_starter controller_reply_to_requester controller_has_started controller_start_reply dist_finish dist_runs_elsewhere dist_take_over dist_permit dist_get_nodes dist_start_here dist_is_to_start dist_find_start_node dist_start_distributed dist_start_appl dist_check_waiting dist_node_down dist_introduced_to dist_handle_next dist_del_t_reqs dist_run dist_answer_ends dist_not_run dist_stopped dist_new_node dist_answer_permits dist_app_started dist_app_stopped dist_weight_told dist_restart dist_new_permission net_to_connect node_controlled_by node_terminated_by node_handled_by node_introduced_by system_lock_call system_wait_for_lock system_behind_sync system_go_on_call system_call_received system_connect system_delivered system_slowed system_waited_for system_booted system_called system_fired_next system_ticked system_is_ticked system_down_told system_taken_down system_ended system_stopped system_join system_has_seen system_boot_next system_made system_rested system_forgotten system_told system_after system_take_lock system_gone system_handled system_work system_mailed
first_lost = record {
  idle = record { has = refl; takes_all = refl; mail = refl; permits = refl; parked = refl };
  calls = refl;
  next = refl;
  fire = refl;
  life = refl;
  gone = refl;
  first = refl;
  unknown = refl;
  needs = refl;
  requests = refl;
  takeovers = refl;
}

first_alone : IsAlone first
unfolding controller_start controller_stop controller_permit controller_top_ends controller_do_start controller_change controller_received controller_spawn_starter controller_reply_to_requester controller_has_started controller_start_reply dist_finish dist_runs_elsewhere dist_take_over dist_permit dist_get_nodes dist_start_here dist_is_to_start dist_find_start_node dist_start_distributed dist_start_appl dist_check_waiting dist_node_down dist_introduced_to dist_handle_next dist_del_t_reqs dist_run dist_answer_ends dist_not_run dist_stopped dist_new_node dist_answer_permits dist_app_started dist_app_stopped dist_weight_told dist_restart dist_new_permission net_to_connect node_controlled_by node_terminated_by node_handled_by node_introduced_by system_lock_call system_wait_for_lock system_behind_sync system_go_on_call system_call_received system_connect system_delivered system_slowed system_waited_for system_booted system_called system_fired_next system_ticked system_is_ticked system_down_told system_taken_down system_ended system_stopped system_join system_has_seen system_boot_next system_made system_rested system_forgotten system_told system_after system_take_lock system_gone system_handled system_work system_mailed
first_alone zero other = refl
first_alone (suc zero) other = absurd (other refl)
first_alone (suc (suc zero)) other = refl
first_alone (suc (suc (suc k))) other = refl

-- The timer of the loss of the application is left, though that runs there again.
record IsLeft (s : SystemView) : Type 0 where
  idle : IsIdle s
  next : next_due s.timers ≡ Some (7000, 0)
  fire : fired s.timers ≡ loss_of d2 7000 1 ∷ []
  over : is_failover (standing_of (dist_of s) d2) ≡ false
  was_lost : standing_of (dist_of lost) d2 ≡ standing.Failover n1
  runs : keyfind d2 (node_at again n2).controller.running ≡ Some Here

is_left : IsLeft second
unfolding controller_start controller_stop controller_permit controller_top_ends controller_do_start controller_change controller_received controller_spawn_starter controller_reply_to_requester controller_has_started controller_start_reply dist_finish dist_runs_elsewhere dist_take_over dist_permit dist_get_nodes dist_start_here dist_is_to_start dist_find_start_node dist_start_distributed dist_start_appl dist_check_waiting dist_node_down dist_introduced_to dist_handle_next dist_del_t_reqs dist_run dist_answer_ends dist_not_run dist_stopped dist_new_node dist_answer_permits dist_app_started dist_app_stopped dist_weight_told dist_restart dist_new_permission net_to_connect node_controlled_by node_terminated_by node_handled_by node_introduced_by system_lock_call system_wait_for_lock system_behind_sync system_go_on_call system_call_received system_connect system_delivered system_slowed system_waited_for system_booted system_called system_fired_next system_ticked system_is_ticked system_down_told system_taken_down system_ended system_stopped system_join system_has_seen system_boot_next system_made system_rested system_forgotten system_told system_after system_take_lock system_gone system_handled system_work system_mailed
is_left = record {
  idle = record { has = refl; takes_all = refl; mail = refl; permits = refl; parked = refl };
  next = refl;
  fire = refl;
  over = refl;
  was_lost = refl;
  runs = refl;
}

waits_over : AreOver third
unfolding controller_start controller_stop controller_permit controller_top_ends controller_do_start controller_change controller_received controller_spawn_starter controller_reply_to_requester controller_has_started controller_start_reply dist_finish dist_runs_elsewhere dist_take_over dist_permit dist_get_nodes dist_start_here dist_is_to_start dist_find_start_node dist_start_distributed dist_start_appl dist_check_waiting dist_node_down dist_introduced_to dist_handle_next dist_del_t_reqs dist_run dist_answer_ends dist_not_run dist_stopped dist_new_node dist_answer_permits dist_app_started dist_app_stopped dist_weight_told dist_restart dist_new_permission net_to_connect node_controlled_by node_terminated_by node_handled_by node_introduced_by system_lock_call system_wait_for_lock system_behind_sync system_go_on_call system_call_received system_connect system_delivered system_slowed system_waited_for system_booted system_called system_fired_next system_ticked system_is_ticked system_down_told system_taken_down system_ended system_stopped system_join system_has_seen system_boot_next system_made system_rested system_forgotten system_told system_after system_take_lock system_gone system_handled system_work system_mailed
waits_over = record { next = refl; fire = refl; dead = refl; up = refl; none = refl; one = refl; other = refl }

record AreQuiet : Type 0 where
  begins : is_settled_by 1 FirstComes (record again { is_ticking = true }) ≡ true
  ends : is_settled_by 1000 FirstComes (fired_next 5000 first) ≡ true

are_quiet : AreQuiet
unfolding controller_start controller_stop controller_permit controller_top_ends controller_do_start controller_change controller_received controller_spawn_starter controller_reply_to_requester controller_has_started controller_start_reply dist_finish dist_runs_elsewhere dist_take_over dist_permit dist_get_nodes dist_start_here dist_is_to_start dist_find_start_node dist_start_distributed dist_start_appl dist_check_waiting dist_node_down dist_introduced_to dist_handle_next dist_del_t_reqs dist_run dist_answer_ends dist_not_run dist_stopped dist_new_node dist_answer_permits dist_app_started dist_app_stopped dist_weight_told dist_restart dist_new_permission net_to_connect node_controlled_by node_terminated_by node_handled_by node_introduced_by system_lock_call system_wait_for_lock system_behind_sync system_go_on_call system_call_received system_connect system_delivered system_slowed system_waited_for system_booted system_called system_fired_next system_ticked system_is_ticked system_down_told system_taken_down system_ended system_stopped system_join system_has_seen system_boot_next system_made system_rested system_forgotten system_told system_after system_take_lock system_gone system_handled system_work system_mailed
are_quiet = record { begins = refl; ends = refl }

-- ---- so the law is of it

asked_reached : (what : Ask) (s : SystemView) → IsReached s → IsReached (asked what s)
asked_reached what s reached =
    commands_reached.settles_there 1000 FirstComes (called what n2 d2 (forgotten s))
    (later (forgotten s) _ (later s (forgotten s) reached (forgets s)) (acts (forgotten s) _ (calls (forgotten s) what n2 d2)))

again_reached : IsReached again
again_reached =
    later (asked (ask.Start Permanent) stopped) again
    (asked_reached (ask.Start Permanent) stopped (asked_reached ask.Stop lost lost_reached))
    (forgets (asked (ask.Start Permanent) stopped))

first_settled : IsSettled first
first_settled = rest_so (record again { is_ticking = true }) are_quiet.begins

-- the timer of the application that runs again
left_at : (s : SystemView) → IsLeft s → AreLeftOver s
left_at s is = record {
  due = 7000;
  step = 0;
  next = is.next;
  all = subst (All (IsLeftOver s)) (sym is.fire)
      (All-cons (IsLeftOver s) (loss_of d2 7000 1) [] (not_lost (loss_of d2 7000 1) d2 1 refl refl (record {
        free = at_ease s is.idle;
        over = record {
          takes_all = of_dist (λ (d : DistView). d.stand ≡ stand.Idle) s is.idle is.idle.takes_all;
          over = of_dist (λ (d : DistView). is_failover (standing_of d d2) ≡ false) s is.idle is.over;
        };
      })) (All-nil (IsLeftOver s)));
}

covered : EachMomentIsCovered 20000 first
unfolding left_at
covered =
    fails_on d1 5000 20000 first first_lost first_alone first_settled are_quiet.ends
    (λ at. left_over second (left_at second is_left) (waits_on third waits_over))

-- There are such ticks: over a failover, and over a timer of an application that was started by hand.
record Row : Type 0 where
  is_reached : IsReached again
  is_settled : IsSettled first
  is_covered : EachMomentIsCovered 20000 first
  ends_alike : TickEndsAlike 20000 1000 FirstComes again
  -- the one was lost, ran before its timer fired, and runs behind that
  was_lost : standing_of (dist_of lost) d2 ≡ standing.Failover n1
  before : keyfind d2 (node_at again n2).controller.running ≡ Some Here
  behind : keyfind d2 (node_at third n2).controller.running ≡ Some Here

row : Row
row = record {
  is_reached = again_reached;
  is_settled = first_settled;
  is_covered = covered;
  ends_alike = moments_alike again 20000 1000 FirstComes again_reached first_settled covered;
  was_lost = is_left.was_lost;
  before = is_left.runs;
  behind = waits_over.other;
}
