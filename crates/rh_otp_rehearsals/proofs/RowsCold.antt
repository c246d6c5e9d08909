-- A whole rehearsal that the laws are of. Of two nodes none has begun, and both begin, one after the other; the first one, at which an
-- application runs, crashes; behind 5 seconds the other one starts it; that is undone, and done again; and the application is stopped.
use Rattle.std.specs.Prelude.{All}
use Rattle.std.proofs.Common.{◌≡◌, ◌<◌, ◌+◌, ℕ, zero, suc, true, false, Some, None, List, [], ◌∷◌, refl, sym, subst, ◌∙◌, inl, arith}
use Rattle.std.proofs.lemmas.Bool.{false≢true}
use Rattle.rh_calls.specs.declared.call.Call.{Call}
use Rattle.rh_calls.specs.declared.call.Call.TheVariants as call
use Rattle.rh_model.specs.declared.node.Node.{Node}
use Rattle.rh_rules.specs.declared.event.Event.TheVariants as event
use Rattle.rh_otp_model.specs.declared.wait.OwnFile.{OwnFile}
use Rattle.rh_otp_model.specs.Own.{EntryView}
use Rattle.rh_otp_model.specs.Rows.{keyfind}
use Rattle.rh_otp_net.specs.declared.order.Order.{Order}
use Rattle.rh_otp_net.specs.declared.order.Order.TheVariants.{FirstComes}
use Rattle.rh_otp_controller.specs.Calls.{start as controller_start, stop as controller_stop, permit as controller_permit, top_ends as controller_top_ends}
use Rattle.rh_otp_controller.specs.Changes.{do_start as controller_do_start, change as controller_change, received as controller_received}
use Rattle.rh_otp_controller.specs.Starting.{spawn_starter as controller_spawn_starter, reply_to_requester as controller_reply_to_requester, has_started as controller_has_started, start_reply as controller_start_reply}
use Rattle.rh_otp_dist.specs.Attempts.{finish as dist_finish, runs_elsewhere as dist_runs_elsewhere}
use Rattle.rh_otp_dist.specs.Calls.{take_over as dist_take_over, permit as dist_permit, get_nodes as dist_get_nodes}
use Rattle.rh_otp_dist.specs.Choosing.{start_here as dist_start_here, is_to_start as dist_is_to_start, find_start_node as dist_find_start_node, start_distributed as dist_start_distributed, start_appl as dist_start_appl}
use Rattle.rh_otp_dist.specs.Down.{check_waiting as dist_check_waiting, node_down as dist_node_down}
use Rattle.rh_otp_dist.specs.Outside.{introduced_to as dist_introduced_to}
use Rattle.rh_otp_dist.specs.Received.{handle_next as dist_handle_next}
use Rattle.rh_otp_dist.specs.Sending.{del_t_reqs as dist_del_t_reqs}
use Rattle.rh_otp_dist.specs.Told.{run as dist_run, answer_ends as dist_answer_ends, not_run as dist_not_run, stopped as dist_stopped, new_node as dist_new_node, answer_permits as dist_answer_permits, app_started as dist_app_started, app_stopped as dist_app_stopped, weight_told as dist_weight_told, restart as dist_restart, new_permission as dist_new_permission}
use Rattle.rh_otp_net.specs.Links.{to_connect as net_to_connect}
use Rattle.rh_otp_node.specs.Turns.{controlled_by as node_controlled_by, terminated_by as node_terminated_by, handled_by as node_handled_by, introduced_by as node_introduced_by}
use Rattle.rh_otp_system.specs.Calling.{lock_call as system_lock_call, wait_for_lock as system_wait_for_lock, behind_sync as system_behind_sync, go_on_call as system_go_on_call, call_received as system_call_received}
use Rattle.rh_otp_system.specs.Connecting.{connect as system_connect}
use Rattle.rh_otp_system.specs.Delivering.{delivered as system_delivered, slowed as system_slowed}
use Rattle.rh_otp_system.specs.Doing.{waited_for as system_waited_for, booted as system_booted, called as system_called, fired_next as system_fired_next, ticked as system_ticked, is_ticked as system_is_ticked}
use Rattle.rh_otp_system.specs.Ending.{down_told as system_down_told, taken_down as system_taken_down, ended as system_ended, stopped as system_stopped}
use Rattle.rh_otp_system.specs.Joining.{join as system_join, has_seen as system_has_seen, boot_next as system_boot_next}
use Rattle.rh_otp_system.specs.Moves.{made as system_made}
use Rattle.rh_otp_system.specs.Resting.{rested as system_rested, forgotten as system_forgotten}
use Rattle.rh_otp_system.specs.Sending.{told as system_told, after as system_after}
use Rattle.rh_otp_system.specs.Working.{take_lock as system_take_lock, gone as system_gone, handled as system_handled, work as system_work, mailed as system_mailed}
use Rattle.rh_otp_controller.specs.declared.state.Place.TheVariants.{Here}
use Rattle.rh_otp_node.specs.Live.{never_begun}
use Rattle.rh_otp_system.specs.declared.slow.Answered.{Answered}
use Rattle.rh_otp_system.specs.Doing.{booted, fired_next}
use Rattle.rh_otp_system.specs.Moves.{Reaches, is_settled_by}
use Rattle.rh_otp_system.specs.State.{SystemView, live_at, is_alive_at}
use Rattle.rh_otp_system.proofs.Moving.{settles}
use Rattle.rh_otp_laws.specs.Acting.{IsThere, new}
use Rattle.rh_otp_crashes.specs.Crashes.{FailOverLater}
use Rattle.rh_otp_crashes.proofs.Turning.{own_in}
use Rattle.rh_otp_stops.proofs.Rows.{n1, n2, d1, l1}
use Rattle.rh_otp_colds.specs.Colds.{is_there, IsColdStart}
use Rattle.rh_otp_colds.specs.Wholes.{AreAsBefore}
use Rattle.rh_otp_colds.proofs.Boot.{colds_go_on}
use Rattle.rh_otp_colds.proofs.Last.{can_still}
use Rattle.rh_otp_colds.proofs.Meanwhile.{still_cold}
use Rattle.rh_otp_colds.proofs.Starting.{there_so, is_there_so}
use Rattle.rh_otp_ticks.specs.Moments.{EachMomentIsCovered}
use Rattle.rh_otp_sim.specs.Acting.{acted, is_acted, acted_at_once, is_quiet_at_once, most_moves}
use Rattle.rh_otp_sim.specs.Calls.{made_by}
use Rattle.rh_otp_sim.specs.Laws.{behind}
use Rattle.rh_otp_sim.specs.Refusing.{node_in}
use Rattle.rh_otp_sim.specs.Sim.{LiveSimView, opened, net_in}
use Rattle.rh_otp_sim.specs.Stepping.{begun}
use Rattle.rh_otp_rehearsals.specs.Rehearsals.{EachEndsAlike, ShowTheSame}
use Rattle.rh_otp_rehearsals.specs.Covered.{boot_cold, crash, moments, stop, IsCovered, EachIsCovered}
use Rattle.rh_otp_rehearsals.proofs.ColdNames.{cluster, files, fresh, is_new, names, can, later_of}
use Rattle.rh_otp_rehearsals.proofs.ColdFailover.{quiet, IsIdle, IsCalm, are_at_rest, IsLost, AreOver, waits_on, fails_on, CanTellSo, can_end}
use Rattle.rh_otp_rehearsals.proofs.Covering.{covered_alike}
use Rattle.rh_otp_rehearsals.proofs.OneWay.{rest_so}
use Rattle.rh_otp_rehearsals.proofs.Rehearsing.{end_alike}

-- ---- behind each of the steps

abbrev first : LiveSimView
first = opened cluster files FirstComes

abbrev waiting : LiveSimView
waiting = made_by (call.Step (event.Boot n1)) first

abbrev both_up : LiveSimView
both_up = made_by (call.Step (event.Boot n2)) waiting

abbrev lost : LiveSimView
lost = made_by (call.Step (event.Crash n1)) both_up

abbrev taken_over : LiveSimView
taken_over = made_by (call.Step (event.Tick 20000)) lost

abbrev again : LiveSimView
again = made_by call.Look (made_by call.Redo (made_by call.Undo taken_over))

abbrev stopped : LiveSimView
stopped = made_by (call.Step (event.Stop n2 d1)) again

-- where it is carried out
abbrev at_boot : SystemView
at_boot = begun (net_in first) (event.Boot n1) first

abbrev at_last : SystemView
at_last = begun (net_in waiting) (event.Boot n2) waiting

abbrev at_crash : SystemView
at_crash = begun (net_in both_up) (event.Crash n1) both_up

abbrev at_tick : SystemView
at_tick = begun (net_in lost) (event.Tick 20000) lost

abbrev at_stop : SystemView
at_stop = begun (net_in again) (event.Stop n2 d1) again

-- time begins to pass, and behind the failover
abbrev passing : SystemView
passing = record at_tick { is_ticking = true }

abbrev passed : SystemView
passed = quiet (fired_next 5000 passing)

-- ---- the boots

-- The boot of the first node ends. In the second state the nodes and what is between them are as it leaves them, and the second node is
-- down.
record Waits (s t : SystemView) : Type 0 where
  uncounted : (booted n1 s).answers ≡ []
  ends : is_settled_by most_moves FirstComes (booted n1 s) ≡ true
  same : AreAsBefore (quiet (booted n1 s)) t
  cluster : t.cluster ≡ s.cluster
  files : t.files ≡ s.files
  there : (m : Node) → is_there t m ≡ is_there s m
  down : is_alive_at t n2 ≡ false

nodes_same : (k : ℕ) → live_at at_last (record { 0 = k }) ≡ live_at (quiet (booted n1 fresh)) (record { 0 = k })
unfolding is_acted acted is_quiet_at_once acted_at_once controller_start controller_stop controller_permit controller_top_ends controller_do_start controller_change controller_received controller_spawn_starter controller_reply_to_requester controller_has_started controller_start_reply dist_finish dist_runs_elsewhere dist_take_over dist_permit dist_get_nodes dist_start_here dist_is_to_start dist_find_start_node dist_start_distributed dist_start_appl dist_check_waiting dist_node_down dist_introduced_to dist_handle_next dist_del_t_reqs dist_run dist_answer_ends dist_not_run dist_stopped dist_new_node dist_answer_permits dist_app_started dist_app_stopped dist_weight_told dist_restart dist_new_permission net_to_connect node_controlled_by node_terminated_by node_handled_by node_introduced_by system_lock_call system_wait_for_lock system_behind_sync system_go_on_call system_call_received system_connect system_delivered system_slowed system_waited_for system_booted system_called system_fired_next system_ticked system_is_ticked system_down_told system_taken_down system_ended system_stopped system_join system_has_seen system_boot_next system_made system_rested system_forgotten system_told system_after system_take_lock system_gone system_handled system_work system_mailed
nodes_same zero = refl
nodes_same (suc zero) = refl
nodes_same (suc (suc zero)) = refl
nodes_same (suc (suc (suc k))) = refl

there_same : (k : ℕ) → is_there at_last (record { 0 = k }) ≡ is_there fresh (record { 0 = k })
unfolding is_acted acted is_quiet_at_once acted_at_once controller_start controller_stop controller_permit controller_top_ends controller_do_start controller_change controller_received controller_spawn_starter controller_reply_to_requester controller_has_started controller_start_reply dist_finish dist_runs_elsewhere dist_take_over dist_permit dist_get_nodes dist_start_here dist_is_to_start dist_find_start_node dist_start_distributed dist_start_appl dist_check_waiting dist_node_down dist_introduced_to dist_handle_next dist_del_t_reqs dist_run dist_answer_ends dist_not_run dist_stopped dist_new_node dist_answer_permits dist_app_started dist_app_stopped dist_weight_told dist_restart dist_new_permission net_to_connect node_controlled_by node_terminated_by node_handled_by node_introduced_by system_lock_call system_wait_for_lock system_behind_sync system_go_on_call system_call_received system_connect system_delivered system_slowed system_waited_for system_booted system_called system_fired_next system_ticked system_is_ticked system_down_told system_taken_down system_ended system_stopped system_join system_has_seen system_boot_next system_made system_rested system_forgotten system_told system_after system_take_lock system_gone system_handled system_work system_mailed
there_same zero = refl
there_same (suc zero) = refl
there_same (suc (suc zero)) = refl
there_same (suc (suc (suc k))) = refl

waits : Waits fresh at_last
unfolding is_acted acted is_quiet_at_once acted_at_once controller_start controller_stop controller_permit controller_top_ends controller_do_start controller_change controller_received controller_spawn_starter controller_reply_to_requester controller_has_started controller_start_reply dist_finish dist_runs_elsewhere dist_take_over dist_permit dist_get_nodes dist_start_here dist_is_to_start dist_find_start_node dist_start_distributed dist_start_appl dist_check_waiting dist_node_down dist_introduced_to dist_handle_next dist_del_t_reqs dist_run dist_answer_ends dist_not_run dist_stopped dist_new_node dist_answer_permits dist_app_started dist_app_stopped dist_weight_told dist_restart dist_new_permission net_to_connect node_controlled_by node_terminated_by node_handled_by node_introduced_by system_lock_call system_wait_for_lock system_behind_sync system_go_on_call system_call_received system_connect system_delivered system_slowed system_waited_for system_booted system_called system_fired_next system_ticked system_is_ticked system_down_told system_taken_down system_ended system_stopped system_join system_has_seen system_boot_next system_made system_rested system_forgotten system_told system_after system_take_lock system_gone system_handled system_work system_mailed
waits = record {
  uncounted = refl;
  ends = refl;
  same = record {
    cluster = refl;
    files = refl;
    nodes = λ m. nodes_same m.0;
    alive = refl;
    links = refl;
    locks = refl;
    messages = refl;
    slow = refl;
    calls = refl;
  };
  cluster = refl;
  files = refl;
  there = λ m. there_same m.0;
  down = refl;
}

cold_first : IsColdStart fresh
cold_first = colds_go_on.first fresh is_new names

cold_last : (t : SystemView) → Waits fresh t → IsColdStart t
cold_last t w =
    still_cold (quiet (booted n1 fresh)) t w.same
    ((colds_go_on.next fresh n1 n2 (new fresh is_new) cold_first (never_begun, refl) refl (never_begun, refl) refl
    (λ is. omega (arith, is))).1
    (quiet (booted n1 fresh))
    (subst (λ (l : List Answered). Reaches (record (booted n1 fresh) { answers = l }) (quiet (booted n1 fresh))) (sym w.uncounted)
    (settles most_moves FirstComes (booted n1 fresh)).0)
    ((settles most_moves FirstComes (booted n1 fresh)).1 w.ends))

boots_first : IsCovered (event.Boot n1) at_boot
unfolding system_forgotten
boots_first = boot_cold fresh n1 n2 cold_first can (never_begun, refl) refl (never_begun, refl) (λ is. omega (arith, is))

boots_last : (t : SystemView) → Waits fresh t → IsCovered (event.Boot n2) t
boots_last t w =
    boot_cold t n2 n1 (cold_last t w) (can_still fresh t w.cluster w.files w.there can) (there_of n2 (never_begun, refl)) w.down
    (there_of n1 (never_begun, refl)) (λ is. omega (arith, is))
  where
    there_of : (m : Node) → IsThere m fresh → IsThere m t
    there_of m there = is_there_so t m (w.there m ∙ there_so fresh m there)

-- ---- the crash

none_at_crash : (k : ℕ) → is_alive_at at_crash (record { 0 = suc (suc k) }) ≡ false
unfolding is_acted acted is_quiet_at_once acted_at_once controller_start controller_stop controller_permit controller_top_ends controller_do_start controller_change controller_received controller_spawn_starter controller_reply_to_requester controller_has_started controller_start_reply dist_finish dist_runs_elsewhere dist_take_over dist_permit dist_get_nodes dist_start_here dist_is_to_start dist_find_start_node dist_start_distributed dist_start_appl dist_check_waiting dist_node_down dist_introduced_to dist_handle_next dist_del_t_reqs dist_run dist_answer_ends dist_not_run dist_stopped dist_new_node dist_answer_permits dist_app_started dist_app_stopped dist_weight_told dist_restart dist_new_permission net_to_connect node_controlled_by node_terminated_by node_handled_by node_introduced_by system_lock_call system_wait_for_lock system_behind_sync system_go_on_call system_call_received system_connect system_delivered system_slowed system_waited_for system_booted system_called system_fired_next system_ticked system_is_ticked system_down_told system_taken_down system_ended system_stopped system_join system_has_seen system_boot_next system_made system_rested system_forgotten system_told system_after system_take_lock system_gone system_handled system_work system_mailed
none_at_crash zero = refl
none_at_crash (suc k) = refl

calm_crash : IsCalm at_crash
unfolding is_acted acted is_quiet_at_once acted_at_once controller_start controller_stop controller_permit controller_top_ends controller_do_start controller_change controller_received controller_spawn_starter controller_reply_to_requester controller_has_started controller_start_reply dist_finish dist_runs_elsewhere dist_take_over dist_permit dist_get_nodes dist_start_here dist_is_to_start dist_find_start_node dist_start_distributed dist_start_appl dist_check_waiting dist_node_down dist_introduced_to dist_handle_next dist_del_t_reqs dist_run dist_answer_ends dist_not_run dist_stopped dist_new_node dist_answer_permits dist_app_started dist_app_stopped dist_weight_told dist_restart dist_new_permission net_to_connect node_controlled_by node_terminated_by node_handled_by node_introduced_by system_lock_call system_wait_for_lock system_behind_sync system_go_on_call system_call_received system_connect system_delivered system_slowed system_waited_for system_booted system_called system_fired_next system_ticked system_is_ticked system_down_told system_taken_down system_ended system_stopped system_join system_has_seen system_boot_next system_made system_rested system_forgotten system_told system_after system_take_lock system_gone system_handled system_work system_mailed
calm_crash = record {
  over = refl;
  calls = refl;
  second = record { has = refl; takes_all = refl; mail = refl; permits = refl; parked = refl };
  no_more = none_at_crash;
}

first_idle : IsIdle n1 at_crash
unfolding is_acted acted is_quiet_at_once acted_at_once controller_start controller_stop controller_permit controller_top_ends controller_do_start controller_change controller_received controller_spawn_starter controller_reply_to_requester controller_has_started controller_start_reply dist_finish dist_runs_elsewhere dist_take_over dist_permit dist_get_nodes dist_start_here dist_is_to_start dist_find_start_node dist_start_distributed dist_start_appl dist_check_waiting dist_node_down dist_introduced_to dist_handle_next dist_del_t_reqs dist_run dist_answer_ends dist_not_run dist_stopped dist_new_node dist_answer_permits dist_app_started dist_app_stopped dist_weight_told dist_restart dist_new_permission net_to_connect node_controlled_by node_terminated_by node_handled_by node_introduced_by system_lock_call system_wait_for_lock system_behind_sync system_go_on_call system_call_received system_connect system_delivered system_slowed system_waited_for system_booted system_called system_fired_next system_ticked system_is_ticked system_down_told system_taken_down system_ended system_stopped system_join system_has_seen system_boot_next system_made system_rested system_forgotten system_told system_after system_take_lock system_gone system_handled system_work system_mailed
first_idle = record { has = refl; takes_all = refl; mail = refl; permits = refl; parked = refl }

crash_files : at_crash.files ≡ files
unfolding is_acted acted is_quiet_at_once acted_at_once controller_start controller_stop controller_permit controller_top_ends controller_do_start controller_change controller_received controller_spawn_starter controller_reply_to_requester controller_has_started controller_start_reply dist_finish dist_runs_elsewhere dist_take_over dist_permit dist_get_nodes dist_start_here dist_is_to_start dist_find_start_node dist_start_distributed dist_start_appl dist_check_waiting dist_node_down dist_introduced_to dist_handle_next dist_del_t_reqs dist_run dist_answer_ends dist_not_run dist_stopped dist_new_node dist_answer_permits dist_app_started dist_app_stopped dist_weight_told dist_restart dist_new_permission net_to_connect node_controlled_by node_terminated_by node_handled_by node_introduced_by system_lock_call system_wait_for_lock system_behind_sync system_go_on_call system_call_received system_connect system_delivered system_slowed system_waited_for system_booted system_called system_fired_next system_ticked system_is_ticked system_down_told system_taken_down system_ended system_stopped system_join system_has_seen system_boot_next system_made system_rested system_forgotten system_told system_after system_take_lock system_gone system_handled system_work system_mailed
crash_files = refl

later : FailOverLater at_crash
later n = subst (λ (f : List OwnFile). All (λ (e : EntryView). 0 < e.timeout) (own_in f n).entries) (sym crash_files) (later_of n.0)

-- ---- the tick

none_passing : (k : ℕ) → is_alive_at passing (record { 0 = suc (suc k) }) ≡ false
unfolding is_acted acted is_quiet_at_once acted_at_once controller_start controller_stop controller_permit controller_top_ends controller_do_start controller_change controller_received controller_spawn_starter controller_reply_to_requester controller_has_started controller_start_reply dist_finish dist_runs_elsewhere dist_take_over dist_permit dist_get_nodes dist_start_here dist_is_to_start dist_find_start_node dist_start_distributed dist_start_appl dist_check_waiting dist_node_down dist_introduced_to dist_handle_next dist_del_t_reqs dist_run dist_answer_ends dist_not_run dist_stopped dist_new_node dist_answer_permits dist_app_started dist_app_stopped dist_weight_told dist_restart dist_new_permission net_to_connect node_controlled_by node_terminated_by node_handled_by node_introduced_by system_lock_call system_wait_for_lock system_behind_sync system_go_on_call system_call_received system_connect system_delivered system_slowed system_waited_for system_booted system_called system_fired_next system_ticked system_is_ticked system_down_told system_taken_down system_ended system_stopped system_join system_has_seen system_boot_next system_made system_rested system_forgotten system_told system_after system_take_lock system_gone system_handled system_work system_mailed
none_passing zero = refl
none_passing (suc k) = refl

calm_passing : IsCalm passing
unfolding is_acted acted is_quiet_at_once acted_at_once controller_start controller_stop controller_permit controller_top_ends controller_do_start controller_change controller_received controller_spawn_starter controller_reply_to_requester controller_has_started controller_start_reply dist_finish dist_runs_elsewhere dist_take_over dist_permit dist_get_nodes dist_start_here dist_is_to_start dist_find_start_node dist_start_distributed dist_start_appl dist_check_waiting dist_node_down dist_introduced_to dist_handle_next dist_del_t_reqs dist_run dist_answer_ends dist_not_run dist_stopped dist_new_node dist_answer_permits dist_app_started dist_app_stopped dist_weight_told dist_restart dist_new_permission net_to_connect node_controlled_by node_terminated_by node_handled_by node_introduced_by system_lock_call system_wait_for_lock system_behind_sync system_go_on_call system_call_received system_connect system_delivered system_slowed system_waited_for system_booted system_called system_fired_next system_ticked system_is_ticked system_down_told system_taken_down system_ended system_stopped system_join system_has_seen system_boot_next system_made system_rested system_forgotten system_told system_after system_take_lock system_gone system_handled system_work system_mailed
calm_passing = record {
  over = refl;
  calls = refl;
  second = record { has = refl; takes_all = refl; mail = refl; permits = refl; parked = refl };
  no_more = none_passing;
}

is_lost : IsLost passing
unfolding is_acted acted is_quiet_at_once acted_at_once controller_start controller_stop controller_permit controller_top_ends controller_do_start controller_change controller_received controller_spawn_starter controller_reply_to_requester controller_has_started controller_start_reply dist_finish dist_runs_elsewhere dist_take_over dist_permit dist_get_nodes dist_start_here dist_is_to_start dist_find_start_node dist_start_distributed dist_start_appl dist_check_waiting dist_node_down dist_introduced_to dist_handle_next dist_del_t_reqs dist_run dist_answer_ends dist_not_run dist_stopped dist_new_node dist_answer_permits dist_app_started dist_app_stopped dist_weight_told dist_restart dist_new_permission net_to_connect node_controlled_by node_terminated_by node_handled_by node_introduced_by system_lock_call system_wait_for_lock system_behind_sync system_go_on_call system_call_received system_connect system_delivered system_slowed system_waited_for system_booted system_called system_fired_next system_ticked system_is_ticked system_down_told system_taken_down system_ended system_stopped system_join system_has_seen system_boot_next system_made system_rested system_forgotten system_told system_after system_take_lock system_gone system_handled system_work system_mailed
is_lost = record {
  down = refl;
  next = refl;
  fire = refl;
  life = refl;
  gone = refl;
  first = refl;
  unknown = refl;
  needs = refl;
  requests = refl;
  takeovers = refl;
  ends = refl;
}

waits_over : AreOver (at_tick.clock + 20000) passed
unfolding is_acted acted is_quiet_at_once acted_at_once controller_start controller_stop controller_permit controller_top_ends controller_do_start controller_change controller_received controller_spawn_starter controller_reply_to_requester controller_has_started controller_start_reply dist_finish dist_runs_elsewhere dist_take_over dist_permit dist_get_nodes dist_start_here dist_is_to_start dist_find_start_node dist_start_distributed dist_start_appl dist_check_waiting dist_node_down dist_introduced_to dist_handle_next dist_del_t_reqs dist_run dist_answer_ends dist_not_run dist_stopped dist_new_node dist_answer_permits dist_app_started dist_app_stopped dist_weight_told dist_restart dist_new_permission net_to_connect node_controlled_by node_terminated_by node_handled_by node_introduced_by system_lock_call system_wait_for_lock system_behind_sync system_go_on_call system_call_received system_connect system_delivered system_slowed system_waited_for system_booted system_called system_fired_next system_ticked system_is_ticked system_down_told system_taken_down system_ended system_stopped system_join system_has_seen system_boot_next system_made system_rested system_forgotten system_told system_after system_take_lock system_gone system_handled system_work system_mailed
waits_over = record {
  first = record { next = refl; fire = refl };
  dead = refl;
  second = record { next = refl; fire = refl };
  up = refl;
  none = refl;
}

each_moment : EachMomentIsCovered (at_tick.clock + 20000) passing
each_moment = fails_on (at_tick.clock + 20000) passing calm_passing is_lost (waits_on (at_tick.clock + 20000) passed waits_over)

-- ---- the stop

none_at_stop : (k : ℕ) → is_alive_at at_stop (record { 0 = suc (suc k) }) ≡ false
unfolding is_acted acted is_quiet_at_once acted_at_once controller_start controller_stop controller_permit controller_top_ends controller_do_start controller_change controller_received controller_spawn_starter controller_reply_to_requester controller_has_started controller_start_reply dist_finish dist_runs_elsewhere dist_take_over dist_permit dist_get_nodes dist_start_here dist_is_to_start dist_find_start_node dist_start_distributed dist_start_appl dist_check_waiting dist_node_down dist_introduced_to dist_handle_next dist_del_t_reqs dist_run dist_answer_ends dist_not_run dist_stopped dist_new_node dist_answer_permits dist_app_started dist_app_stopped dist_weight_told dist_restart dist_new_permission net_to_connect node_controlled_by node_terminated_by node_handled_by node_introduced_by system_lock_call system_wait_for_lock system_behind_sync system_go_on_call system_call_received system_connect system_delivered system_slowed system_waited_for system_booted system_called system_fired_next system_ticked system_is_ticked system_down_told system_taken_down system_ended system_stopped system_join system_has_seen system_boot_next system_made system_rested system_forgotten system_told system_after system_take_lock system_gone system_handled system_work system_mailed
none_at_stop zero = refl
none_at_stop (suc k) = refl

calm_stop : IsCalm at_stop
unfolding is_acted acted is_quiet_at_once acted_at_once controller_start controller_stop controller_permit controller_top_ends controller_do_start controller_change controller_received controller_spawn_starter controller_reply_to_requester controller_has_started controller_start_reply dist_finish dist_runs_elsewhere dist_take_over dist_permit dist_get_nodes dist_start_here dist_is_to_start dist_find_start_node dist_start_distributed dist_start_appl dist_check_waiting dist_node_down dist_introduced_to dist_handle_next dist_del_t_reqs dist_run dist_answer_ends dist_not_run dist_stopped dist_new_node dist_answer_permits dist_app_started dist_app_stopped dist_weight_told dist_restart dist_new_permission net_to_connect node_controlled_by node_terminated_by node_handled_by node_introduced_by system_lock_call system_wait_for_lock system_behind_sync system_go_on_call system_call_received system_connect system_delivered system_slowed system_waited_for system_booted system_called system_fired_next system_ticked system_is_ticked system_down_told system_taken_down system_ended system_stopped system_join system_has_seen system_boot_next system_made system_rested system_forgotten system_told system_after system_take_lock system_gone system_handled system_work system_mailed
calm_stop = record {
  over = refl;
  calls = refl;
  second = record { has = refl; takes_all = refl; mail = refl; permits = refl; parked = refl };
  no_more = none_at_stop;
}

can_tell : CanTellSo at_stop
unfolding is_acted acted is_quiet_at_once acted_at_once controller_start controller_stop controller_permit controller_top_ends controller_do_start controller_change controller_received controller_spawn_starter controller_reply_to_requester controller_has_started controller_start_reply dist_finish dist_runs_elsewhere dist_take_over dist_permit dist_get_nodes dist_start_here dist_is_to_start dist_find_start_node dist_start_distributed dist_start_appl dist_check_waiting dist_node_down dist_introduced_to dist_handle_next dist_del_t_reqs dist_run dist_answer_ends dist_not_run dist_stopped dist_new_node dist_answer_permits dist_app_started dist_app_stopped dist_weight_told dist_restart dist_new_permission net_to_connect node_controlled_by node_terminated_by node_handled_by node_introduced_by system_lock_call system_wait_for_lock system_behind_sync system_go_on_call system_call_received system_connect system_delivered system_slowed system_waited_for system_booted system_called system_fired_next system_ticked system_is_ticked system_down_told system_taken_down system_ended system_stopped system_join system_has_seen system_boot_next system_made system_rested system_forgotten system_told system_after system_take_lock system_gone system_handled system_work system_mailed
can_tell = record { down = refl; takeovers = refl; ends = refl }

-- ---- so the laws are of it

abbrev calls : List Call
calls =
    call.Step (event.Boot n1) ∷ call.Step (event.Boot n2) ∷ call.Step (event.Crash n1) ∷ call.Step (event.Tick 20000) ∷ call.Undo
    ∷ call.Redo ∷ call.Look ∷ call.Step (event.Stop n2 d1) ∷ []

-- where the applications run
record Computed : Type 0 where
  runs : keyfind d1 (node_in both_up n1).controller.running ≡ Some Here
  runs_too : keyfind l1 (node_in both_up n2).controller.running ≡ Some Here
  fails_over : keyfind d1 (node_in taken_over n2).controller.running ≡ Some Here
  ends : keyfind d1 (node_in stopped n2).controller.running ≡ None
  -- none of the steps was refused
  done : (behind calls first).history.cursor ≡ 5

computed : Computed
unfolding is_acted acted is_quiet_at_once acted_at_once controller_start controller_stop controller_permit controller_top_ends controller_do_start controller_change controller_received controller_spawn_starter controller_reply_to_requester controller_has_started controller_start_reply dist_finish dist_runs_elsewhere dist_take_over dist_permit dist_get_nodes dist_start_here dist_is_to_start dist_find_start_node dist_start_distributed dist_start_appl dist_check_waiting dist_node_down dist_introduced_to dist_handle_next dist_del_t_reqs dist_run dist_answer_ends dist_not_run dist_stopped dist_new_node dist_answer_permits dist_app_started dist_app_stopped dist_weight_told dist_restart dist_new_permission net_to_connect node_controlled_by node_terminated_by node_handled_by node_introduced_by system_lock_call system_wait_for_lock system_behind_sync system_go_on_call system_call_received system_connect system_delivered system_slowed system_waited_for system_booted system_called system_fired_next system_ticked system_is_ticked system_down_told system_taken_down system_ended system_stopped system_join system_has_seen system_boot_next system_made system_rested system_forgotten system_told system_after system_take_lock system_gone system_handled system_work system_mailed
computed = record { runs = refl; runs_too = refl; fails_over = refl; ends = refl; done = refl }

covered : EachIsCovered calls first
covered = (
  λ accepted. inl boots_first,
  (
    λ accepted. inl (boots_last at_last waits),
    (
      λ accepted. inl (crash at_crash n1 (are_at_rest at_crash calm_crash (λ alive. first_idle)) later),
      (
        λ accepted. inl (moments at_tick 20000 (rest_so passing calm_passing.over) each_moment),
        (
          tt,
          (
            tt,
            (
              tt,
              (
                λ accepted.
                    inl (stop at_stop n2 d1 (are_at_rest at_stop calm_stop (λ alive. absurd (false≢true (sym can_tell.down ∙ alive))))
                    (can_end at_stop calm_stop can_tell)),
                tt,
              ),
            ),
          ),
        ),
      ),
    ),
  ),
)

ends_alike : EachEndsAlike calls first
ends_alike = covered_alike cluster files FirstComes calls covered

-- There is such a rehearsal: both boots are those of a cold start, and the crash, the tick and the stop are those of their laws. At the
-- first moment of the tick the application is started at the second node, and at two more nothing comes of the timers. None is refused.
record Row : Type 0 where
  is_covered : EachIsCovered calls first
  ends_alike : EachEndsAlike calls first
  -- so whichever order messages are taken in, it shows the same
  show_the_same : (other : Order) → ShowTheSame calls first (opened cluster files other)
  -- where the application runs
  runs : keyfind d1 (node_in both_up n1).controller.running ≡ Some Here
  fails_over : keyfind d1 (node_in taken_over n2).controller.running ≡ Some Here
  ends : keyfind d1 (node_in stopped n2).controller.running ≡ None
  done : (behind calls first).history.cursor ≡ 5

row : Row
row = record {
  is_covered = covered;
  ends_alike = ends_alike;
  show_the_same = λ other. end_alike cluster files FirstComes other calls ends_alike;
  runs = computed.runs;
  fails_over = computed.fails_over;
  ends = computed.ends;
  done = computed.done;
}
