-- A rehearsal that the laws are of. Of two nodes the one begins, waits for the other until its timeout, and then runs an application; that
-- one is stopped, which is undone, and the node crashes; and all is undone and done again.
use Rattle.std.specs.Prelude.{All}
use Rattle.std.proofs.Common.{◌<◌, zero, inl, ◌≡◌, ◌+◌, ℕ, suc, true, false, Some, None, List, [], ◌∷◌, refl, sym, subst, ◌∙◌}
use Rattle.std.proofs.lemmas.Bool.{false≢true}
use Rattle.std.proofs.lemmas.List.Elements.{All-nil}
use Rattle.std.proofs.lemmas.Option.{none-some}
use Rattle.rh_calls.specs.declared.call.Call.{Call}
use Rattle.rh_calls.specs.declared.call.Call.TheVariants as call
use Rattle.rh_model.specs.ClusterView.{ClusterView, NodeView, numbered, app_numbered}
use Rattle.rh_model.specs.declared.node.App.{App}
use Rattle.rh_model.specs.declared.node.Node.{Node}
use Rattle.rh_model.specs.declared.settings.Restart.TheVariants.{Permanent}
use Rattle.rh_model.specs.declared.settings.SyncWait.TheVariants.{After}
use Rattle.rh_rules.specs.declared.event.Event.TheVariants as event
use Rattle.rh_otp_model.specs.declared.wait.OwnFile.{OwnFile}
use Rattle.rh_otp_model.specs.declared.wait.Wait.TheVariants as wait
use Rattle.rh_otp_net.specs.declared.order.Order.TheVariants.{FirstComes}
use Rattle.rh_otp_controller.specs.Calls.{start as controller_start, stop as controller_stop, permit as controller_permit, top_ends as controller_top_ends}
use Rattle.rh_otp_controller.specs.Changes.{do_start as controller_do_start, change as controller_change, received as controller_received}
use Rattle.rh_otp_controller.specs.Starting.{spawn_starter as controller_spawn_starter, reply_to_requester as controller_reply_to_requester, has_started as controller_has_started, start_reply as controller_start_reply}
use Rattle.rh_otp_dist.specs.Attempts.{finish as dist_finish, runs_elsewhere as dist_runs_elsewhere}
use Rattle.rh_otp_dist.specs.Calls.{take_over as dist_take_over, permit as dist_permit, get_nodes as dist_get_nodes}
use Rattle.rh_otp_dist.specs.Choosing.{start_here as dist_start_here, is_to_start as dist_is_to_start, find_start_node as dist_find_start_node, start_distributed as dist_start_distributed, start_appl as dist_start_appl}
use Rattle.rh_otp_dist.specs.Down.{check_waiting as dist_check_waiting, node_down as dist_node_down}
use Rattle.rh_otp_dist.specs.Outside.{introduced_to as dist_introduced_to}
use Rattle.rh_otp_dist.specs.Received.{handle_next as dist_handle_next}
use Rattle.rh_otp_dist.specs.Sending.{del_t_reqs as dist_del_t_reqs}
use Rattle.rh_otp_dist.specs.Told.{run as dist_run, answer_ends as dist_answer_ends, not_run as dist_not_run, stopped as dist_stopped, new_node as dist_new_node, answer_permits as dist_answer_permits, app_started as dist_app_started, app_stopped as dist_app_stopped, weight_told as dist_weight_told, restart as dist_restart, new_permission as dist_new_permission}
use Rattle.rh_otp_net.specs.Links.{to_connect as net_to_connect}
use Rattle.rh_otp_node.specs.Turns.{controlled_by as node_controlled_by, terminated_by as node_terminated_by, handled_by as node_handled_by, introduced_by as node_introduced_by}
use Rattle.rh_otp_system.specs.Calling.{lock_call as system_lock_call, wait_for_lock as system_wait_for_lock, behind_sync as system_behind_sync, go_on_call as system_go_on_call, call_received as system_call_received}
use Rattle.rh_otp_system.specs.Connecting.{connect as system_connect}
use Rattle.rh_otp_system.specs.Delivering.{delivered as system_delivered, slowed as system_slowed}
use Rattle.rh_otp_system.specs.Doing.{waited_for as system_waited_for, booted as system_booted, called as system_called, fired_next as system_fired_next, ticked as system_ticked, is_ticked as system_is_ticked}
use Rattle.rh_otp_system.specs.Ending.{down_told as system_down_told, taken_down as system_taken_down, ended as system_ended, stopped as system_stopped}
use Rattle.rh_otp_system.specs.Joining.{join as system_join, has_seen as system_has_seen, boot_next as system_boot_next}
use Rattle.rh_otp_system.specs.Moves.{made as system_made}
use Rattle.rh_otp_system.specs.Resting.{rested as system_rested, forgotten as system_forgotten}
use Rattle.rh_otp_system.specs.Sending.{told as system_told, after as system_after}
use Rattle.rh_otp_system.specs.Working.{take_lock as system_take_lock, gone as system_gone, handled as system_handled, work as system_work, mailed as system_mailed}
use Rattle.rh_otp_system.specs.Doing.{fired_next, next_until}
use Rattle.rh_otp_system.specs.Moves.{settled, is_settled_by}
use Rattle.rh_otp_system.proofs.Moving.{settles}
use Rattle.rh_otp_net.specs.Timers.{next_due}
use Rattle.rh_otp_model.specs.Own.{EntryView, controls}
use Rattle.rh_otp_system.specs.State.{SystemView, node_at, own_at}
use Rattle.rh_otp_crashes.specs.Crashes.{AreAtRest, FailOverLater}
use Rattle.rh_otp_stops.specs.Stops.{CanEnd}
use Rattle.rh_otp_sim.specs.Acting.{acted, is_acted, acted_at_once, is_quiet_at_once, most_moves, done_first}
use Rattle.rh_otp_sim.specs.Calls.{made_by}
use Rattle.rh_otp_controller.specs.declared.state.Place.TheVariants.{Here}
use Rattle.rh_otp_model.specs.Rows.{keyfind}
use Rattle.rh_otp_sim.specs.Laws.{behind}
use Rattle.rh_otp_sim.specs.Refusing.{node_in}
use Rattle.rh_otp_sim.specs.Sim.{LiveSimView, opened, net_in}
use Rattle.rh_otp_sim.specs.Stepping.{begun}
use Rattle.rh_otp_ticks.specs.Moments.{EachMomentIsCovered, over, otherwise}
use Rattle.rh_otp_rehearsals.specs.Rehearsals.{EachEndsAlike}
use Rattle.rh_otp_rehearsals.specs.Covered.{is_over, goes_one_at_a_time, boot, crash, moments, stop, EachIsCovered}
use Rattle.rh_otp_rehearsals.proofs.Covering.{covered_alike}
use Rattle.rh_otp_rehearsals.proofs.OneWay.{rest_so, settles_one_way}

abbrev n1 : Node
n1 = numbered 0

abbrev n2 : Node
n2 = numbered 1

abbrev l1 : App
l1 = app_numbered 0

-- it waits for the other one, and runs the application
abbrev node_of : Node → NodeView
node_of other = record {
  mandatory = [];
  optional = other ∷ [];
  sync_wait = After 12000;
  boot = (l1, Permanent) ∷ [];
  permissions = true ∷ [];
  platforms = [];
}

abbrev cluster : ClusterView
cluster = record {
  profile = 1;
  node_names = (97 ∷ []) ∷ (98 ∷ []) ∷ [];
  app_names = (97 ∷ []) ∷ [];
  platform_names = [];
  nodes = node_of n2 ∷ node_of n1 ∷ [];
  apps = record { deps = []; start_arg = None; phases = false; spread = None } ∷ [];
}

abbrev file : OwnFile
file = record { own = record { has_dist = false; entries = [] }; wait = wait.After 12000 }

-- ---- behind each of the steps

abbrev first : LiveSimView
first = opened cluster (file ∷ file ∷ []) FirstComes

abbrev waiting : LiveSimView
waiting = made_by (call.Step (event.Boot n1)) first

abbrev up : LiveSimView
up = made_by (call.Step (event.Tick 12000)) waiting

abbrev stopped : LiveSimView
stopped = made_by (call.Step (event.Stop n1 l1)) up

abbrev running : LiveSimView
running = made_by call.Undo stopped

-- where it is carried out
abbrev at_boot : SystemView
at_boot = begun (net_in first) (event.Boot n1) first

abbrev at_tick : SystemView
at_tick = begun (net_in waiting) (event.Tick 12000) waiting

-- time begins to pass, and behind the timer
abbrev passing : SystemView
passing = record at_tick { is_ticking = true }

abbrev passed : SystemView
passed = settled most_moves FirstComes (fired_next 12000 passing)

abbrev at_stop : SystemView
at_stop = begun (net_in up) (event.Stop n1 l1) up

abbrev at_crash : SystemView
at_crash = begun (net_in running) (event.Crash n1) running

-- ---- what the prover computes of them

abbrev calls : List Call
calls =
    call.Step (event.Boot n1) ∷ call.Step (event.Tick 12000) ∷ call.Step (event.Stop n1 l1) ∷ call.Undo ∷ call.Step (event.Crash n1)
    ∷ call.Undo ∷ call.Redo ∷ call.UndoAll ∷ call.RedoAll ∷ call.Look ∷ []

record Computed : Type 0 where
  boots : goes_one_at_a_time 100 (record (done_first (event.Boot n1) first at_boot) { answers = [] }) ≡ true
  begins : is_over passing ≡ true
  due : next_due passing.timers ≡ Some (12000, 1)
  fires : goes_one_at_a_time 100 (record (fired_next 12000 passing) { answers = [] }) ≡ true
  over_soon : is_settled_by most_moves FirstComes (fired_next 12000 passing) ≡ true
  no_more : next_until (at_tick.clock + 12000) passed ≡ None
  -- the application runs before it is stopped, and where that was undone
  runs : keyfind l1 (node_in up n1).controller.running ≡ Some Here
  ends : keyfind l1 (node_in stopped n1).controller.running ≡ None
  runs_again : keyfind l1 (node_in running n1).controller.running ≡ Some Here
  -- none of the steps was refused
  done : (behind calls first).history.cursor ≡ 3

computed : Computed
unfolding is_acted acted is_quiet_at_once acted_at_once controller_start controller_stop controller_permit controller_top_ends controller_do_start controller_change controller_received controller_spawn_starter controller_reply_to_requester controller_has_started controller_start_reply dist_finish dist_runs_elsewhere dist_take_over dist_permit dist_get_nodes dist_start_here dist_is_to_start dist_find_start_node dist_start_distributed dist_start_appl dist_check_waiting dist_node_down dist_introduced_to dist_handle_next dist_del_t_reqs dist_run dist_answer_ends dist_not_run dist_stopped dist_new_node dist_answer_permits dist_app_started dist_app_stopped dist_weight_told dist_restart dist_new_permission net_to_connect node_controlled_by node_terminated_by node_handled_by node_introduced_by system_lock_call system_wait_for_lock system_behind_sync system_go_on_call system_call_received system_connect system_delivered system_slowed system_waited_for system_booted system_called system_fired_next system_ticked system_is_ticked system_down_told system_taken_down system_ended system_stopped system_join system_has_seen system_boot_next system_made system_rested system_forgotten system_told system_after system_take_lock system_gone system_handled system_work system_mailed
computed = record {
  boots = refl;
  begins = refl;
  due = refl;
  fires = refl;
  over_soon = refl;
  no_more = refl;
  runs = refl;
  ends = refl;
  runs_again = refl;
  done = refl;
}

-- ---- so the laws are of it

each_moment : EachMomentIsCovered (at_tick.clock + 12000) passing
each_moment =
    otherwise passing passed 12000 1 computed.due (settles_one_way 100 (fired_next 12000 passing) computed.fires)
    (settles most_moves FirstComes (fired_next 12000 passing)).0
    ((settles most_moves FirstComes (fired_next 12000 passing)).1 computed.over_soon) (over passed computed.no_more)

-- ---- the stop and the crash by the laws of these

-- nothing moves there, no call is open, and nobody has a lock
record IsCalm (s : SystemView) : Type 0 where
  over : is_over s ≡ true
  calls : s.calls ≡ []
  locks : s.locks ≡ []
  unlisted : controls (own_at s n1) l1 ≡ false

calm_stop : IsCalm at_stop
unfolding is_acted acted is_quiet_at_once acted_at_once controller_start controller_stop controller_permit controller_top_ends controller_do_start controller_change controller_received controller_spawn_starter controller_reply_to_requester controller_has_started controller_start_reply dist_finish dist_runs_elsewhere dist_take_over dist_permit dist_get_nodes dist_start_here dist_is_to_start dist_find_start_node dist_start_distributed dist_start_appl dist_check_waiting dist_node_down dist_introduced_to dist_handle_next dist_del_t_reqs dist_run dist_answer_ends dist_not_run dist_stopped dist_new_node dist_answer_permits dist_app_started dist_app_stopped dist_weight_told dist_restart dist_new_permission net_to_connect node_controlled_by node_terminated_by node_handled_by node_introduced_by system_lock_call system_wait_for_lock system_behind_sync system_go_on_call system_call_received system_connect system_delivered system_slowed system_waited_for system_booted system_called system_fired_next system_ticked system_is_ticked system_down_told system_taken_down system_ended system_stopped system_join system_has_seen system_boot_next system_made system_rested system_forgotten system_told system_after system_take_lock system_gone system_handled system_work system_mailed
calm_stop = record { over = refl; calls = refl; locks = refl; unlisted = refl }

calm_crash : IsCalm at_crash
unfolding is_acted acted is_quiet_at_once acted_at_once controller_start controller_stop controller_permit controller_top_ends controller_do_start controller_change controller_received controller_spawn_starter controller_reply_to_requester controller_has_started controller_start_reply dist_finish dist_runs_elsewhere dist_take_over dist_permit dist_get_nodes dist_start_here dist_is_to_start dist_find_start_node dist_start_distributed dist_start_appl dist_check_waiting dist_node_down dist_introduced_to dist_handle_next dist_del_t_reqs dist_run dist_answer_ends dist_not_run dist_stopped dist_new_node dist_answer_permits dist_app_started dist_app_stopped dist_weight_told dist_restart dist_new_permission net_to_connect node_controlled_by node_terminated_by node_handled_by node_introduced_by system_lock_call system_wait_for_lock system_behind_sync system_go_on_call system_call_received system_connect system_delivered system_slowed system_waited_for system_booted system_called system_fired_next system_ticked system_is_ticked system_down_told system_taken_down system_ended system_stopped system_join system_has_seen system_boot_next system_made system_rested system_forgotten system_told system_after system_take_lock system_gone system_handled system_work system_mailed
calm_crash = record { over = refl; calls = refl; locks = refl; unlisted = refl }

-- no node has a dist_ac
abbrev NoDist : SystemView → Type 0
NoDist s = (k : ℕ) → (node_at s (record { 0 = k })).dist ≡ None

no_dist_stop : NoDist at_stop
unfolding is_acted acted is_quiet_at_once acted_at_once controller_start controller_stop controller_permit controller_top_ends controller_do_start controller_change controller_received controller_spawn_starter controller_reply_to_requester controller_has_started controller_start_reply dist_finish dist_runs_elsewhere dist_take_over dist_permit dist_get_nodes dist_start_here dist_is_to_start dist_find_start_node dist_start_distributed dist_start_appl dist_check_waiting dist_node_down dist_introduced_to dist_handle_next dist_del_t_reqs dist_run dist_answer_ends dist_not_run dist_stopped dist_new_node dist_answer_permits dist_app_started dist_app_stopped dist_weight_told dist_restart dist_new_permission net_to_connect node_controlled_by node_terminated_by node_handled_by node_introduced_by system_lock_call system_wait_for_lock system_behind_sync system_go_on_call system_call_received system_connect system_delivered system_slowed system_waited_for system_booted system_called system_fired_next system_ticked system_is_ticked system_down_told system_taken_down system_ended system_stopped system_join system_has_seen system_boot_next system_made system_rested system_forgotten system_told system_after system_take_lock system_gone system_handled system_work system_mailed
no_dist_stop zero = refl
no_dist_stop (suc zero) = refl
no_dist_stop (suc (suc zero)) = refl
no_dist_stop (suc (suc (suc k))) = refl

no_dist_crash : NoDist at_crash
unfolding is_acted acted is_quiet_at_once acted_at_once controller_start controller_stop controller_permit controller_top_ends controller_do_start controller_change controller_received controller_spawn_starter controller_reply_to_requester controller_has_started controller_start_reply dist_finish dist_runs_elsewhere dist_take_over dist_permit dist_get_nodes dist_start_here dist_is_to_start dist_find_start_node dist_start_distributed dist_start_appl dist_check_waiting dist_node_down dist_introduced_to dist_handle_next dist_del_t_reqs dist_run dist_answer_ends dist_not_run dist_stopped dist_new_node dist_answer_permits dist_app_started dist_app_stopped dist_weight_told dist_restart dist_new_permission net_to_connect node_controlled_by node_terminated_by node_handled_by node_introduced_by system_lock_call system_wait_for_lock system_behind_sync system_go_on_call system_call_received system_connect system_delivered system_slowed system_waited_for system_booted system_called system_fired_next system_ticked system_is_ticked system_down_told system_taken_down system_ended system_stopped system_join system_has_seen system_boot_next system_made system_rested system_forgotten system_told system_after system_take_lock system_gone system_handled system_work system_mailed
no_dist_crash zero = refl
no_dist_crash (suc zero) = refl
no_dist_crash (suc (suc zero)) = refl
no_dist_crash (suc (suc (suc k))) = refl

-- no application is distributed
no_entries : (k : ℕ) → (own_at at_crash (record { 0 = k })).entries ≡ []
unfolding is_acted acted is_quiet_at_once acted_at_once controller_start controller_stop controller_permit controller_top_ends controller_do_start controller_change controller_received controller_spawn_starter controller_reply_to_requester controller_has_started controller_start_reply dist_finish dist_runs_elsewhere dist_take_over dist_permit dist_get_nodes dist_start_here dist_is_to_start dist_find_start_node dist_start_distributed dist_start_appl dist_check_waiting dist_node_down dist_introduced_to dist_handle_next dist_del_t_reqs dist_run dist_answer_ends dist_not_run dist_stopped dist_new_node dist_answer_permits dist_app_started dist_app_stopped dist_weight_told dist_restart dist_new_permission net_to_connect node_controlled_by node_terminated_by node_handled_by node_introduced_by system_lock_call system_wait_for_lock system_behind_sync system_go_on_call system_call_received system_connect system_delivered system_slowed system_waited_for system_booted system_called system_fired_next system_ticked system_is_ticked system_down_told system_taken_down system_ended system_stopped system_join system_has_seen system_boot_next system_made system_rested system_forgotten system_told system_after system_take_lock system_gone system_handled system_work system_mailed
no_entries zero = refl
no_entries (suc zero) = refl
no_entries (suc (suc k)) = refl

are_at_rest : (s : SystemView) → IsCalm s → NoDist s → AreAtRest s
are_at_rest s calm none = record {
  settled = rest_so s calm.over;
  calls = calm.calls;
  dists = λ n d alive has. absurd (none-some d (sym (none n.0) ∙ has));
}

can_end : CanEnd n1 l1 at_stop
can_end = record {
  tells = λ is. absurd (false≢true (sym calm_stop.unlisted ∙ is));
}

later : FailOverLater at_crash
later n = subst (All (λ (e : EntryView). 0 < e.timeout)) (sym (no_entries n.0)) (All-nil (λ (e : EntryView). 0 < e.timeout))

covered : EachIsCovered calls first
covered = (
  λ accepted. inl (boot at_boot n1 100 computed.boots),
  (
    λ accepted. inl (moments at_tick 12000 (rest_so passing computed.begins) each_moment),
    (
      λ accepted. inl (stop at_stop n1 l1 (are_at_rest at_stop calm_stop no_dist_stop) can_end),
      (tt, (λ accepted. inl (crash at_crash n1 (are_at_rest at_crash calm_crash no_dist_crash) later), (tt, (tt, (tt, (tt, (tt, tt))))))),
    ),
  ),
)

-- There is such a rehearsal: its boot goes one way, its stop and its crash are those of the laws, and so is its tick, over one moment, at
-- which the timer lets one thing happen at a time. So each of its commands ends alike at its turn. None is refused.
record Row : Type 0 where
  is_covered : EachIsCovered calls first
  ends_alike : EachEndsAlike calls first
  done : (behind calls first).history.cursor ≡ 3

row : Row
row = record {
  is_covered = covered;
  ends_alike = covered_alike cluster (file ∷ file ∷ []) FirstComes calls covered;
  done = computed.done;
}
