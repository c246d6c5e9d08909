-- A tick that the law is of: the first of three nodes has crashed. After 5 s the application that ran there fails over to the second one,
-- and after 12 s the timers of all three waits are due, which live nodes never cancelled. A tick over all that is answered alike.
use Rattle.std.proofs.Common.{◌≡◌, ◌<◌, ◌≤◌, ◌+◌, ◌==◌, ◌&&◌, ℕ, Bool, true, false, cond, None, Some, List, [], ◌∷◌, length, refl, sym, ap, subst, ◌∙◌, arith}
use Rattle.std.specs.Prelude.{All}
use Rattle.std.proofs.lemmas.Bool.{false≢true}
use Rattle.std.proofs.lemmas.List.Elements.{All-nil, All-cons}
use Rattle.rh_model.specs.declared.node.Node.{Node}
use Rattle.rh_rules.specs.declared.event.Event.TheVariants as event
use Rattle.rh_rules.specs.declared.notice.Notice.{Notice}
use Rattle.rh_rules.specs.declared.notice.Notice.TheVariants as notice
use Rattle.rh_rules.specs.Placing.{start_kind}
use Rattle.rh_rules.specs.Refusals.{refused}
use Rattle.rh_rules.specs.Time.{due_by}
use Rattle.rh_calls.specs.declared.call.Call.TheVariants as call
use Rattle.rh_calls.specs.declared.call.Reply.TheVariants as reply
use Rattle.rh_state.specs.StateView.{StateView, earliest}
use Rattle.rh_trail.specs.Lone.{served}
use Rattle.rh_trail.specs.SimView.{state_of}
use Rattle.rh_otp_model.specs.declared.message.Message.TheVariants as message
use Rattle.rh_otp_model.specs.declared.process.Role.TheVariants as role
use Rattle.rh_otp_net.specs.declared.order.Order.{Order}
use Rattle.rh_otp_net.specs.declared.timers.Timer.{Timer}
use Rattle.rh_otp_net.specs.Timers as timers
use Rattle.rh_otp_node.specs.declared.node.Phase.{Phase}
use Rattle.rh_otp_node.specs.declared.node.Phase.TheVariants as phase
use Rattle.rh_otp_node.specs.Live.{is_down, is_phase_up}
use Rattle.rh_otp_sim.specs.Acting.{acted, acted_at_once, is_acted, is_quiet_at_once, most_moves}
use Rattle.rh_otp_sim.specs.Sim.{net_in}
use Rattle.rh_otp_system.specs.Doing.{fired_next, until_if}
use Rattle.rh_otp_system.specs.Moves.{settled}
use Rattle.rh_otp_system.specs.Resting.{forgotten}
use Rattle.rh_otp_system.specs.State.{SystemView, node_at, is_alive_at, is_up_at}
use Rattle.rh_otp_ticks.specs.LeftOver.{AreLeftOver, IsLeftOver, gone, up, behind_timers}
use Rattle.rh_agreement.specs.Laws.{IsAnsweredAlike}
use Rattle.rh_otp_controller.specs.Calls.{start as controller_start, stop as controller_stop, permit as controller_permit, top_ends as controller_top_ends}
use Rattle.rh_otp_controller.specs.Changes.{do_start as controller_do_start, change as controller_change, received as controller_received}
use Rattle.rh_otp_controller.specs.Starting.{spawn_starter as controller_spawn_starter, reply_to_requester as controller_reply_to_requester, has_started as controller_has_started, start_reply as controller_start_reply}
use Rattle.rh_otp_dist.specs.Attempts.{finish as dist_finish, runs_elsewhere as dist_runs_elsewhere}
use Rattle.rh_otp_dist.specs.Calls.{take_over as dist_take_over, permit as dist_permit, get_nodes as dist_get_nodes}
use Rattle.rh_otp_dist.specs.Choosing.{start_here as dist_start_here, is_to_start as dist_is_to_start, find_start_node as dist_find_start_node, start_distributed as dist_start_distributed, start_appl as dist_start_appl}
use Rattle.rh_otp_dist.specs.Down.{check_waiting as dist_check_waiting, node_down as dist_node_down}
use Rattle.rh_otp_dist.specs.Outside.{introduced_to as dist_introduced_to}
use Rattle.rh_otp_dist.specs.Received.{handle_next as dist_handle_next}
use Rattle.rh_otp_dist.specs.Sending.{del_t_reqs as dist_del_t_reqs}
use Rattle.rh_otp_dist.specs.Told.{run as dist_run, answer_ends as dist_answer_ends, not_run as dist_not_run, stopped as dist_stopped, new_node as dist_new_node, answer_permits as dist_answer_permits, app_started as dist_app_started, app_stopped as dist_app_stopped, weight_told as dist_weight_told, restart as dist_restart, new_permission as dist_new_permission}
use Rattle.rh_otp_net.specs.Links.{to_connect as net_to_connect}
use Rattle.rh_otp_node.specs.Turns.{controlled_by as node_controlled_by, terminated_by as node_terminated_by, handled_by as node_handled_by, introduced_by as node_introduced_by}
use Rattle.rh_otp_system.specs.Calling.{lock_call as system_lock_call, wait_for_lock as system_wait_for_lock, behind_sync as system_behind_sync, go_on_call as system_go_on_call, call_received as system_call_received}
use Rattle.rh_otp_system.specs.Connecting.{connect as system_connect}
use Rattle.rh_otp_system.specs.Delivering.{delivered as system_delivered, slowed as system_slowed}
use Rattle.rh_otp_system.specs.Doing.{waited_for as system_waited_for, booted as system_booted, called as system_called, fired_next as system_fired_next, ticked as system_ticked, is_ticked as system_is_ticked}
use Rattle.rh_otp_system.specs.Ending.{down_told as system_down_told, taken_down as system_taken_down, ended as system_ended, stopped as system_stopped}
use Rattle.rh_otp_system.specs.Joining.{join as system_join, has_seen as system_has_seen, boot_next as system_boot_next}
use Rattle.rh_otp_system.specs.Moves.{made as system_made}
use Rattle.rh_otp_system.specs.Resting.{rested as system_rested, forgotten as system_forgotten}
use Rattle.rh_otp_system.specs.Sending.{told as system_told, after as system_after}
use Rattle.rh_otp_system.specs.Working.{take_lock as system_take_lock, gone as system_gone, handled as system_handled, work as system_work, mailed as system_mailed}
use Rattle.rh_agreement_failovers.proofs.Rows.{can_then, can_live, room}
use Rattle.rh_agreement_failovers.proofs.RowsTrio.{a, b, c, web}
use Rattle.rh_agreement_failovers.proofs.RowsLost.{sim_four, live_four, state_four, four_so, together_four, at_rest_four}
use Rattle.rh_agreement_failovers.proofs.RowsStandby.{awake, first_down}
use Rattle.rh_agreement_ticks.specs.Passing.{PassAlike, over, left_over, fails_over, FailsOver, FailsOverLive, failed_over, PassesAlike}
use Rattle.rh_agreement_ticks.proofs.FailsOver as failover
use Rattle.rh_agreement_ticks.proofs.OnWay.{OnWay, alive_so, first_way}
use Rattle.rh_agreement_ticks.proofs.Ticking.{ticks_alike}

-- ---- the timers of the waits

-- the timer of the wait of a node in its first life, which was set in this step
abbrev wait_of : ℕ → Node → Timer
wait_of step n = record {
  due = 12000;
  step = step;
  to = record { role = role.KernelConfig; node = n; life = 1 };
  message = message.Timeout;
}

abbrev waits : List Timer
waits = wait_of 1 a ∷ wait_of 2 b ∷ wait_of 3 c ∷ []

left_is : timers.left awake.timers ≡ waits
unfolding controller_start controller_stop controller_permit controller_top_ends controller_do_start controller_change controller_received controller_spawn_starter controller_reply_to_requester controller_has_started controller_start_reply dist_finish dist_runs_elsewhere dist_take_over dist_permit dist_get_nodes dist_start_here dist_is_to_start dist_find_start_node dist_start_distributed dist_start_appl dist_check_waiting dist_node_down dist_introduced_to dist_handle_next dist_del_t_reqs dist_run dist_answer_ends dist_not_run dist_stopped dist_new_node dist_answer_permits dist_app_started dist_app_stopped dist_weight_told dist_restart dist_new_permission net_to_connect node_controlled_by node_terminated_by node_handled_by node_introduced_by system_lock_call system_wait_for_lock system_behind_sync system_go_on_call system_call_received system_connect system_delivered system_slowed system_waited_for system_booted system_called system_fired_next system_ticked system_is_ticked system_down_told system_taken_down system_ended system_stopped system_join system_has_seen system_boot_next system_made system_rested system_forgotten system_told system_after system_take_lock system_gone system_handled system_work system_mailed acted acted_at_once is_acted is_quiet_at_once
left_is = refl

few_timers : length awake.timers ≡ 5
unfolding controller_start controller_stop controller_permit controller_top_ends controller_do_start controller_change controller_received controller_spawn_starter controller_reply_to_requester controller_has_started controller_start_reply dist_finish dist_runs_elsewhere dist_take_over dist_permit dist_get_nodes dist_start_here dist_is_to_start dist_find_start_node dist_start_distributed dist_start_appl dist_check_waiting dist_node_down dist_introduced_to dist_handle_next dist_del_t_reqs dist_run dist_answer_ends dist_not_run dist_stopped dist_new_node dist_answer_permits dist_app_started dist_app_stopped dist_weight_told dist_restart dist_new_permission net_to_connect node_controlled_by node_terminated_by node_handled_by node_introduced_by system_lock_call system_wait_for_lock system_behind_sync system_go_on_call system_call_received system_connect system_delivered system_slowed system_waited_for system_booted system_called system_fired_next system_ticked system_is_ticked system_down_told system_taken_down system_ended system_stopped system_join system_has_seen system_boot_next system_made system_rested system_forgotten system_told system_after system_take_lock system_gone system_handled system_work system_mailed acted acted_at_once is_acted is_quiet_at_once
few_timers = refl

second_up : is_up_at awake b ≡ true
unfolding controller_start controller_stop controller_permit controller_top_ends controller_do_start controller_change controller_received controller_spawn_starter controller_reply_to_requester controller_has_started controller_start_reply dist_finish dist_runs_elsewhere dist_take_over dist_permit dist_get_nodes dist_start_here dist_is_to_start dist_find_start_node dist_start_distributed dist_start_appl dist_check_waiting dist_node_down dist_introduced_to dist_handle_next dist_del_t_reqs dist_run dist_answer_ends dist_not_run dist_stopped dist_new_node dist_answer_permits dist_app_started dist_app_stopped dist_weight_told dist_restart dist_new_permission net_to_connect node_controlled_by node_terminated_by node_handled_by node_introduced_by system_lock_call system_wait_for_lock system_behind_sync system_go_on_call system_call_received system_connect system_delivered system_slowed system_waited_for system_booted system_called system_fired_next system_ticked system_is_ticked system_down_told system_taken_down system_ended system_stopped system_join system_has_seen system_boot_next system_made system_rested system_forgotten system_told system_after system_take_lock system_gone system_handled system_work system_mailed acted acted_at_once is_acted is_quiet_at_once
second_up = refl

third_up : is_up_at awake c ≡ true
unfolding controller_start controller_stop controller_permit controller_top_ends controller_do_start controller_change controller_received controller_spawn_starter controller_reply_to_requester controller_has_started controller_start_reply dist_finish dist_runs_elsewhere dist_take_over dist_permit dist_get_nodes dist_start_here dist_is_to_start dist_find_start_node dist_start_distributed dist_start_appl dist_check_waiting dist_node_down dist_introduced_to dist_handle_next dist_del_t_reqs dist_run dist_answer_ends dist_not_run dist_stopped dist_new_node dist_answer_permits dist_app_started dist_app_stopped dist_weight_told dist_restart dist_new_permission net_to_connect node_controlled_by node_terminated_by node_handled_by node_introduced_by system_lock_call system_wait_for_lock system_behind_sync system_go_on_call system_call_received system_connect system_delivered system_slowed system_waited_for system_booted system_called system_fired_next system_ticked system_is_ticked system_down_told system_taken_down system_ended system_stopped system_join system_has_seen system_boot_next system_made system_rested system_forgotten system_told system_after system_take_lock system_gone system_handled system_work system_mailed acted acted_at_once is_acted is_quiet_at_once
third_up = refl

clock_zero : (net_in live_four).clock ≡ 0
unfolding controller_start controller_stop controller_permit controller_top_ends controller_do_start controller_change controller_received controller_spawn_starter controller_reply_to_requester controller_has_started controller_start_reply dist_finish dist_runs_elsewhere dist_take_over dist_permit dist_get_nodes dist_start_here dist_is_to_start dist_find_start_node dist_start_distributed dist_start_appl dist_check_waiting dist_node_down dist_introduced_to dist_handle_next dist_del_t_reqs dist_run dist_answer_ends dist_not_run dist_stopped dist_new_node dist_answer_permits dist_app_started dist_app_stopped dist_weight_told dist_restart dist_new_permission net_to_connect node_controlled_by node_terminated_by node_handled_by node_introduced_by system_lock_call system_wait_for_lock system_behind_sync system_go_on_call system_call_received system_connect system_delivered system_slowed system_waited_for system_booted system_called system_fired_next system_ticked system_is_ticked system_down_told system_taken_down system_ended system_stopped system_join system_has_seen system_boot_next system_made system_rested system_forgotten system_told system_after system_take_lock system_gone system_handled system_work system_mailed acted acted_at_once is_acted is_quiet_at_once
clock_zero = refl

-- ---- they are left over

module _ (t : SystemView) (first : is_alive_at t a ≡ false) (second : is_up_at t b ≡ true) (third : is_up_at t c ≡ true) where
  first_gone : IsLeftOver t (wait_of 1 a)
  first_gone = gone (wait_of 1 a) (ap (λ (alive : Bool). alive && (node_at t a).life == 1) first)

  alone : (x : Timer) → IsLeftOver t x → All (IsLeftOver t) (x ∷ [])
  alone x is = All-cons (IsLeftOver t) x [] is (All-nil (IsLeftOver t))

  over_first : t.timers ≡ waits → AreLeftOver t
  over_first is = record {
    due = 12000;
    step = 1;
    next = ap timers.next_due is;
    all = subst (λ (rows : List Timer). All (IsLeftOver t) (timers.fired rows)) (sym is) (alone (wait_of 1 a) first_gone);
  }

  over_second : t.timers ≡ wait_of 2 b ∷ wait_of 3 c ∷ [] → AreLeftOver t
  over_second is = record {
    due = 12000;
    step = 2;
    next = ap timers.next_due is;
    all = subst (λ (rows : List Timer). All (IsLeftOver t) (timers.fired rows)) (sym is)
        (alone (wait_of 2 b) (up (wait_of 2 b) refl second));
  }

  over_third : t.timers ≡ wait_of 3 c ∷ [] → AreLeftOver t
  over_third is = record {
    due = 12000;
    step = 3;
    next = ap timers.next_due is;
    all = subst (λ (rows : List Timer). All (IsLeftOver t) (timers.fired rows)) (sym is)
        (alone (wait_of 3 c) (up (wait_of 3 c) refl third));
  }

  abbrev behind : SystemView
  behind = record (behind_timers 12000 t) { answers = [] }

in_time : (due : ℕ) → due ≤ due
in_time due = omega arith

-- all three, one after the other
all_left_over : (order : Order) (s : StateView) (t : SystemView) → is_alive_at t a ≡ false → is_up_at t b ≡ true → is_up_at t c ≡ true
    → t.timers ≡ waits → due_by 12000 (earliest s) ≡ None → PassAlike 12000 order s t []
unfolding over_first over_second over_third
all_left_over order s t first second third is none =
    let t_two : SystemView = behind t first second third in
    let t_three : SystemView = behind t_two first second third in
    let t_four : SystemView = behind t_three first second third in
    let is_two : t_two.timers ≡ wait_of 2 b ∷ wait_of 3 c ∷ [] = ap timers.left is in
    let is_three : t_three.timers ≡ wait_of 3 c ∷ [] = ap timers.left is_two in
    let is_four : t_four.timers ≡ [] = ap timers.left is_three in
    left_over s t [] (over_first t first second third is) (in_time 12000)
    (left_over s t_two [] (over_second t_two first second third is_two) (in_time 12000)
    (left_over s t_three [] (over_third t_three first second third is_three) (in_time 12000)
    (over s t_four none (ap (λ (rows : List Timer). until_if 12000 (timers.next_due rows)) is_four))))

-- ---- the failover

by_rules : FailsOver 12000 state_four b a web
by_rules = record {
  due = 5000;
  timer = refl;
  alone = refl;
  lost = can_then.lost;
  elsewhere = can_then.elsewhere;
  can = can_then.can;
  first = can_then.first;
  unneeded = can_then.unneeded;
}

live : FailsOverLive 12000 awake b a web
unfolding forgotten
live = record {
  failover = can_live.failover;
  in_time = omega (arith, can_live.in_time, clock_zero);
  fires = can_live.fires;
  with_it = can_live.with_it;
  own = can_live.own;
  started = can_live.started;
  runs = can_live.runs;
  away = can_live.away;
  stays = can_live.stays;
  knows = can_live.knows;
  nowhere = can_live.nowhere;
  few = can_live.few;
}

way : OnWay live_four 12000 awake
way =
    subst (λ (clock : ℕ). OnWay live_four (clock + 12000) awake) clock_zero
    (first_way live_four 12000 at_rest_four.reached at_rest_four.rest)

second_alive : is_alive_at awake b ≡ true
second_alive = at (node_at awake b).phase second_up
  where
    at : (p : Phase) → is_phase_up p ≡ true → cond (is_down p) false true ≡ true
    at phase.Up is = refl
    at phase.Down is = absurd (false≢true is)
    at phase.Waiting is = refl

abbrev then : SystemView
then = settled most_moves live_four.order (fired_next live.failover.due awake)

still_up : (n : Node) → is_up_at awake n ≡ true → is_up_at then n ≡ true
still_up n is = ap is_phase_up (failover.then_phases live_four 12000 awake way b a web second_alive live n) ∙ is

-- ---- so the law is of it

-- this is told of the tick
abbrev told : StateView → List Notice
told s = notice.Started web b (start_kind s web (Some a) b) (Some a) ∷ []

passes : PassAlike 12000 live_four.order state_four awake (told state_four)
unfolding by_rules
passes =
    fails_over state_four awake b a web [] by_rules live
    (all_left_over live_four.order (failed_over by_rules.due b a web state_four) then
    (alive_so awake then a (failover.then_phases live_four 12000 awake way b a web second_alive live a) ∙ first_down)
    (still_up b second_up) (still_up c third_up)
    (failover.then_timers live_four 12000 awake way b a web second_alive live ∙ left_is) refl)

passes_alike : PassesAlike 12000 sim_four live_four (told (state_of sim_four))
passes_alike = record {
  passes = subst (λ (s : StateView). PassAlike (s.time + 12000) live_four.order s awake (told s)) (sym four_so) passes;
  few = subst (λ (k : ℕ). k < most_moves) (sym few_timers) (omega arith);
}

tick_row : IsAnsweredAlike (call.Step (event.Tick 12000)) sim_four live_four
tick_row = (ticks_alike sim_four live_four 12000 (told (state_of sim_four)) together_four room at_rest_four passes_alike).0

-- and it isn't refused
fine_then : refused state_four (event.Tick 12000) ≡ None
unfolding refused
fine_then = refl

tick_told : (served sim_four (call.Step (event.Tick 12000))).reply ≡ reply.Done (told (state_of sim_four))
tick_told =
    (ticks_alike sim_four live_four 12000 (told (state_of sim_four)) together_four room at_rest_four passes_alike).3
    (ap (λ (s : StateView). refused s (event.Tick 12000)) four_so ∙ fine_then)
