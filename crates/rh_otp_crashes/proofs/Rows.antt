-- A failover that the law is of: of three nodes the one at which an application ran has crashed, and the two others wait for their timers,
-- which fire at the same moment. The second is the first that may run it now, and the third stands by.
use Rattle.std.proofs.Common.{◌≡◌, ◌≢◌, ◌⊎◌, ◌≤◌, ◌==◌, ◌&&◌, ◌||◌, ℕ, zero, suc, Bool, true, false, cond, length, List, [], ◌∷◌, unwrap_or, is_some, Option, Some, None, refl, sym, ap, subst, ◌∙◌, inl, arith}
use Rattle.std.specs.Prelude.{All}
use Rattle.std.proofs.lemmas.Bool.{false≢true, eqb-true}
use Rattle.std.proofs.lemmas.List.Elements.{All-nil}
use Rattle.std.proofs.lemmas.Option.{same_Some}
use Rattle.rh_model.specs.ClusterView.{ClusterView, NodeView, numbered, app_numbered}
use Rattle.rh_model.specs.declared.node.App.{App}
use Rattle.rh_model.specs.declared.node.Node.{Node}
use Rattle.rh_model.specs.declared.settings.Restart.TheVariants.{Permanent}
use Rattle.rh_model.specs.declared.settings.SyncWait.TheVariants.{After}
use Rattle.rh_otp_model.specs.declared.message.Message.{Message}
use Rattle.rh_otp_model.specs.declared.message.Message.TheVariants as message
use Rattle.rh_otp_model.specs.declared.process.Role.TheVariants as role
use Rattle.rh_otp_model.specs.declared.wait.OwnFile.{OwnFile}
use Rattle.rh_otp_model.specs.declared.wait.Wait.TheVariants as wait
use Rattle.rh_otp_model.specs.Own.{controls}
use Rattle.rh_otp_controller.specs.Calls.{start as controller_start, stop as controller_stop, permit as controller_permit, top_ends as controller_top_ends}
use Rattle.rh_otp_controller.specs.Changes.{do_start as controller_do_start, change as controller_change, received as controller_received}
use Rattle.rh_otp_controller.specs.Starting.{spawn_starter as controller_spawn_starter, reply_to_requester as controller_reply_to_requester, has_started as controller_has_started, start_reply as controller_start_reply}
use Rattle.rh_otp_dist.specs.Attempts.{finish as dist_finish, runs_elsewhere as dist_runs_elsewhere}
use Rattle.rh_otp_dist.specs.Calls.{take_over as dist_take_over, permit as dist_permit, get_nodes as dist_get_nodes}
use Rattle.rh_otp_dist.specs.Choosing.{start_here as dist_start_here, is_to_start as dist_is_to_start, find_start_node as dist_find_start_node, start_distributed as dist_start_distributed, start_appl as dist_start_appl}
use Rattle.rh_otp_dist.specs.Down.{check_waiting as dist_check_waiting, node_down as dist_node_down}
use Rattle.rh_otp_dist.specs.Outside.{introduced_to as dist_introduced_to}
use Rattle.rh_otp_dist.specs.Received.{handle_next as dist_handle_next}
use Rattle.rh_otp_dist.specs.Sending.{del_t_reqs as dist_del_t_reqs}
use Rattle.rh_otp_dist.specs.Told.{run as dist_run, answer_ends as dist_answer_ends, not_run as dist_not_run, stopped as dist_stopped, new_node as dist_new_node, answer_permits as dist_answer_permits, app_started as dist_app_started, app_stopped as dist_app_stopped, weight_told as dist_weight_told, restart as dist_restart, new_permission as dist_new_permission}
use Rattle.rh_otp_net.specs.Links.{to_connect as net_to_connect}
use Rattle.rh_otp_node.specs.Turns.{controlled_by as node_controlled_by, terminated_by as node_terminated_by, handled_by as node_handled_by, introduced_by as node_introduced_by}
use Rattle.rh_otp_system.specs.Calling.{lock_call as system_lock_call, wait_for_lock as system_wait_for_lock, behind_sync as system_behind_sync, go_on_call as system_go_on_call, call_received as system_call_received}
use Rattle.rh_otp_system.specs.Connecting.{connect as system_connect}
use Rattle.rh_otp_system.specs.Delivering.{delivered as system_delivered, slowed as system_slowed}
use Rattle.rh_otp_system.specs.Doing.{waited_for as system_waited_for, booted as system_booted, called as system_called, fired_next as system_fired_next, ticked as system_ticked, is_ticked as system_is_ticked}
use Rattle.rh_otp_system.specs.Ending.{down_told as system_down_told, taken_down as system_taken_down, ended as system_ended, stopped as system_stopped}
use Rattle.rh_otp_system.specs.Joining.{join as system_join, has_seen as system_has_seen, boot_next as system_boot_next}
use Rattle.rh_otp_system.specs.Moves.{made as system_made}
use Rattle.rh_otp_system.specs.Resting.{rested as system_rested, forgotten as system_forgotten}
use Rattle.rh_otp_system.specs.Sending.{told as system_told, after as system_after}
use Rattle.rh_otp_system.specs.Working.{take_lock as system_take_lock, gone as system_gone, handled as system_handled, work as system_work, mailed as system_mailed}
use Rattle.rh_otp_controller.specs.Starting.{lacks_running}
use Rattle.rh_otp_dist.specs.declared.state.Stand.TheVariants as stand
use Rattle.rh_otp_dist.specs.declared.state.Standing.TheVariants as standing
use Rattle.rh_otp_dist.specs.declared.state.Told.{Told}
use Rattle.rh_otp_dist.specs.Attempts.{has_app, without_told}
use Rattle.rh_otp_dist.specs.Choosing.{places_of, candidates_of, remote}
use Rattle.rh_otp_dist.specs.State.{DistView, beginning, standing_of, is_among}
use Rattle.rh_otp_dist.specs.Waiting.{takes}
use Rattle.rh_otp_net.specs.declared.order.Order.TheVariants.{FirstComes}
use Rattle.rh_otp_net.specs.declared.timers.Timer.{Timer}
use Rattle.rh_otp_net.specs.Links.{are_linked}
use Rattle.rh_otp_net.specs.Timers.{next_due, fired}
use Rattle.rh_otp_node.specs.Live.{LiveView, never_begun}
use Rattle.rh_otp_node.specs.Turns.{controller_turn}
use Rattle.rh_otp_system.specs.declared.cell.Cell.TheVariants as cell
use Rattle.rh_otp_system.specs.Doing.{booted}
use Rattle.rh_otp_system.specs.Moves.{IsSettled, settled, is_settled_by}
use Rattle.rh_otp_system.specs.Resting.{crashed}
use Rattle.rh_otp_system.specs.State.{SystemView, system_of, node_at, own_at, live_at, is_alive_at}
use Rattle.rh_otp_system.specs.Views.{NetView}
use Rattle.rh_otp_system.proofs.Moving.{settles}
use Rattle.rh_otp_laws.specs.Acting.{IsReached, new, later, acts, begins, crashes}
use Rattle.rh_otp_laws.proofs.Commands.{commands_reached}
use Rattle.rh_otp_crashes.specs.Crashes.{IsUnoccupied, AreAtRest}
use Rattle.rh_otp_crashes.specs.Failovers.{FailsOverAt, StandsBy, IsOver, first_of, lost_attempt}

-- ---- the cluster

abbrev n1 : Node
n1 = numbered 0

abbrev n2 : Node
n2 = numbered 1

abbrev n3 : Node
n3 = numbered 2

abbrev d1 : App
d1 = app_numbered 0

-- it waits for the others, and starts the application
abbrev node_of : List Node → NodeView
node_of others = record {
  mandatory = [];
  optional = others;
  sync_wait = After 12000;
  boot = (d1, Permanent) ∷ [];
  permissions = true ∷ [];
  platforms = [];
}

abbrev cluster : ClusterView
cluster = record {
  profile = 1;
  node_names = (97 ∷ []) ∷ (98 ∷ []) ∷ (99 ∷ []) ∷ [];
  app_names = (97 ∷ []) ∷ [];
  platform_names = [];
  nodes = node_of (n2 ∷ n3 ∷ []) ∷ node_of (n1 ∷ n3 ∷ []) ∷ node_of (n1 ∷ n2 ∷ []) ∷ [];
  apps = record {
    deps = [];
    start_arg = None;
    phases = false;
    spread = Some (record { timeout = 5000; groups = (n1 ∷ []) ∷ (n2 ∷ []) ∷ (n3 ∷ []) ∷ [] });
  } ∷ [];
}

abbrev file : OwnFile
file = record {
  own = record {
    has_dist = true;
    entries = record {
      app = d1;
      timeout = 5000;
      places = record { is_tuple = false; nodes = n1 ∷ [] } ∷ record { is_tuple = false; nodes = n2 ∷ [] }
          ∷ record { is_tuple = false; nodes = n3 ∷ [] } ∷ [];
    } ∷ [];
  };
  wait = wait.After 12000;
}

-- ---- what happens

abbrev no_net : NetView
no_net = record {
  clock = 0;
  step = 0;
  last_call = 0;
  alive = [];
  links = [];
  locks = [];
  timers = [];
  calls = [];
  asleep = [];
  told = [];
}

abbrev none_begun : SystemView
none_begun = system_of cluster (file ∷ file ∷ file ∷ [])
    (cell.Node never_begun ∷ cell.Node never_begun ∷ cell.Node never_begun ∷ cell.Net no_net ∷ []) no_net false

-- all that comes of it, in one order
abbrev quiet : SystemView → SystemView
quiet s = settled 1000 FirstComes s

abbrev one_up : SystemView
one_up = quiet (booted n1 none_begun)

abbrev two_up : SystemView
two_up = quiet (booted n2 one_up)

abbrev all_up : SystemView
all_up = quiet (booted n3 two_up)

-- the application is lost
abbrev lost : SystemView
lost = quiet (crashed n1 all_up)

-- ---- what the prover computes of it

abbrev dist_of : SystemView → Node → DistView
dist_of s n = unwrap_or (node_at s n).dist (beginning 0 0 n [])

-- a node has a dist_ac, which does nothing
record IsThere (n : Node) (s : SystemView) : Type 0 where
  alive : is_alive_at s n ≡ true
  life : (node_at s n).life ≡ 1
  has : is_some (node_at s n).dist ≡ true
  takes_all : (dist_of s n).stand ≡ stand.Idle
  mail : (dist_of s n).mail ≡ []
  permits : (dist_of s n).p_reqs ≡ []
  parked : (dist_of s n).parked ≡ []

-- it has lost the application, and finds the second node to be the first that may run it
record HasLost (n : Node) (s : SystemView) : Type 0 where
  gone : standing_of (dist_of s n) d1 ≡ standing.Failover n1
  first : first_of (candidates_of (own_at s n) (lost_attempt (dist_of s n) d1)) (places_of (own_at s n) d1) ≡ Some n2
  unknown : remote (dist_of s n) d1 ≡ None

-- the timer of a node in this life
abbrev loss_at : Node → ℕ → Timer
loss_at n life = record {
  due = 5000;
  step = 0;
  to = record { role = role.DistAc; node = n; life = life };
  message = message.RestartAppl d1 1;
}

record Between (s : SystemView) : Type 0 where
  calls : s.calls ≡ []
  down : is_alive_at s n1 ≡ false
  due : next_due s.timers ≡ Some (5000, 0)
  fire : fired s.timers ≡ loss_at n2 1 ∷ loss_at n3 1 ∷ []
  sees : are_linked n2 n3 s.links ≡ true
  sees_too : are_linked n3 n2 s.links ≡ true

record IsReady (s : SystemView) : Type 0 where
  needs : lacks_running (controller_turn s.cluster (own_at s n2) n2 (node_at s n2)) d1 ≡ None
  requests : (node_at s n2).controller.start_req ≡ []
  takeovers : (dist_of s n2).t_reqs ≡ []

record IsBehind (s : SystemView) : Type 0 where
  among : is_among n3 (candidates_of (own_at s n3) (lost_attempt (dist_of s n3) d1)) ≡ true
  started : (controls (own_at s n3) d1 && has_app d1 (dist_of s n3).started) ≡ true
  untold : (dist_of s n3).tmp_locals ≡ []
  unmonitored : is_among n2 (dist_of s n3).monitored ≡ false

record Computed (s : SystemView) : Type 0 where
  between : Between s
  second_there : IsThere n2 s
  third_there : IsThere n3 s
  second : HasLost n2 s
  third : HasLost n3 s
  able : IsReady s
  behind : IsBehind s

between : Between lost
unfolding controller_start controller_stop controller_permit controller_top_ends controller_do_start controller_change controller_received controller_spawn_starter controller_reply_to_requester controller_has_started controller_start_reply dist_finish dist_runs_elsewhere dist_take_over dist_permit dist_get_nodes dist_start_here dist_is_to_start dist_find_start_node dist_start_distributed dist_start_appl dist_check_waiting dist_node_down dist_introduced_to dist_handle_next dist_del_t_reqs dist_run dist_answer_ends dist_not_run dist_stopped dist_new_node dist_answer_permits dist_app_started dist_app_stopped dist_weight_told dist_restart dist_new_permission net_to_connect node_controlled_by node_terminated_by node_handled_by node_introduced_by system_lock_call system_wait_for_lock system_behind_sync system_go_on_call system_call_received system_connect system_delivered system_slowed system_waited_for system_booted system_called system_fired_next system_ticked system_is_ticked system_down_told system_taken_down system_ended system_stopped system_join system_has_seen system_boot_next system_made system_rested system_forgotten system_told system_after system_take_lock system_gone system_handled system_work system_mailed
between = record { calls = refl; down = refl; due = refl; fire = refl; sees = refl; sees_too = refl }

second_there : IsThere n2 lost
unfolding controller_start controller_stop controller_permit controller_top_ends controller_do_start controller_change controller_received controller_spawn_starter controller_reply_to_requester controller_has_started controller_start_reply dist_finish dist_runs_elsewhere dist_take_over dist_permit dist_get_nodes dist_start_here dist_is_to_start dist_find_start_node dist_start_distributed dist_start_appl dist_check_waiting dist_node_down dist_introduced_to dist_handle_next dist_del_t_reqs dist_run dist_answer_ends dist_not_run dist_stopped dist_new_node dist_answer_permits dist_app_started dist_app_stopped dist_weight_told dist_restart dist_new_permission net_to_connect node_controlled_by node_terminated_by node_handled_by node_introduced_by system_lock_call system_wait_for_lock system_behind_sync system_go_on_call system_call_received system_connect system_delivered system_slowed system_waited_for system_booted system_called system_fired_next system_ticked system_is_ticked system_down_told system_taken_down system_ended system_stopped system_join system_has_seen system_boot_next system_made system_rested system_forgotten system_told system_after system_take_lock system_gone system_handled system_work system_mailed
second_there = record { alive = refl; life = refl; has = refl; takes_all = refl; mail = refl; permits = refl; parked = refl }

third_there : IsThere n3 lost
unfolding controller_start controller_stop controller_permit controller_top_ends controller_do_start controller_change controller_received controller_spawn_starter controller_reply_to_requester controller_has_started controller_start_reply dist_finish dist_runs_elsewhere dist_take_over dist_permit dist_get_nodes dist_start_here dist_is_to_start dist_find_start_node dist_start_distributed dist_start_appl dist_check_waiting dist_node_down dist_introduced_to dist_handle_next dist_del_t_reqs dist_run dist_answer_ends dist_not_run dist_stopped dist_new_node dist_answer_permits dist_app_started dist_app_stopped dist_weight_told dist_restart dist_new_permission net_to_connect node_controlled_by node_terminated_by node_handled_by node_introduced_by system_lock_call system_wait_for_lock system_behind_sync system_go_on_call system_call_received system_connect system_delivered system_slowed system_waited_for system_booted system_called system_fired_next system_ticked system_is_ticked system_down_told system_taken_down system_ended system_stopped system_join system_has_seen system_boot_next system_made system_rested system_forgotten system_told system_after system_take_lock system_gone system_handled system_work system_mailed
third_there = record { alive = refl; life = refl; has = refl; takes_all = refl; mail = refl; permits = refl; parked = refl }

second_lost : HasLost n2 lost
unfolding controller_start controller_stop controller_permit controller_top_ends controller_do_start controller_change controller_received controller_spawn_starter controller_reply_to_requester controller_has_started controller_start_reply dist_finish dist_runs_elsewhere dist_take_over dist_permit dist_get_nodes dist_start_here dist_is_to_start dist_find_start_node dist_start_distributed dist_start_appl dist_check_waiting dist_node_down dist_introduced_to dist_handle_next dist_del_t_reqs dist_run dist_answer_ends dist_not_run dist_stopped dist_new_node dist_answer_permits dist_app_started dist_app_stopped dist_weight_told dist_restart dist_new_permission net_to_connect node_controlled_by node_terminated_by node_handled_by node_introduced_by system_lock_call system_wait_for_lock system_behind_sync system_go_on_call system_call_received system_connect system_delivered system_slowed system_waited_for system_booted system_called system_fired_next system_ticked system_is_ticked system_down_told system_taken_down system_ended system_stopped system_join system_has_seen system_boot_next system_made system_rested system_forgotten system_told system_after system_take_lock system_gone system_handled system_work system_mailed
second_lost = record { gone = refl; first = refl; unknown = refl }

third_lost : HasLost n3 lost
unfolding controller_start controller_stop controller_permit controller_top_ends controller_do_start controller_change controller_received controller_spawn_starter controller_reply_to_requester controller_has_started controller_start_reply dist_finish dist_runs_elsewhere dist_take_over dist_permit dist_get_nodes dist_start_here dist_is_to_start dist_find_start_node dist_start_distributed dist_start_appl dist_check_waiting dist_node_down dist_introduced_to dist_handle_next dist_del_t_reqs dist_run dist_answer_ends dist_not_run dist_stopped dist_new_node dist_answer_permits dist_app_started dist_app_stopped dist_weight_told dist_restart dist_new_permission net_to_connect node_controlled_by node_terminated_by node_handled_by node_introduced_by system_lock_call system_wait_for_lock system_behind_sync system_go_on_call system_call_received system_connect system_delivered system_slowed system_waited_for system_booted system_called system_fired_next system_ticked system_is_ticked system_down_told system_taken_down system_ended system_stopped system_join system_has_seen system_boot_next system_made system_rested system_forgotten system_told system_after system_take_lock system_gone system_handled system_work system_mailed
third_lost = record { gone = refl; first = refl; unknown = refl }

is_ready : IsReady lost
unfolding controller_start controller_stop controller_permit controller_top_ends controller_do_start controller_change controller_received controller_spawn_starter controller_reply_to_requester controller_has_started controller_start_reply dist_finish dist_runs_elsewhere dist_take_over dist_permit dist_get_nodes dist_start_here dist_is_to_start dist_find_start_node dist_start_distributed dist_start_appl dist_check_waiting dist_node_down dist_introduced_to dist_handle_next dist_del_t_reqs dist_run dist_answer_ends dist_not_run dist_stopped dist_new_node dist_answer_permits dist_app_started dist_app_stopped dist_weight_told dist_restart dist_new_permission net_to_connect node_controlled_by node_terminated_by node_handled_by node_introduced_by system_lock_call system_wait_for_lock system_behind_sync system_go_on_call system_call_received system_connect system_delivered system_slowed system_waited_for system_booted system_called system_fired_next system_ticked system_is_ticked system_down_told system_taken_down system_ended system_stopped system_join system_has_seen system_boot_next system_made system_rested system_forgotten system_told system_after system_take_lock system_gone system_handled system_work system_mailed
is_ready = record { needs = refl; requests = refl; takeovers = refl }

is_behind : IsBehind lost
unfolding controller_start controller_stop controller_permit controller_top_ends controller_do_start controller_change controller_received controller_spawn_starter controller_reply_to_requester controller_has_started controller_start_reply dist_finish dist_runs_elsewhere dist_take_over dist_permit dist_get_nodes dist_start_here dist_is_to_start dist_find_start_node dist_start_distributed dist_start_appl dist_check_waiting dist_node_down dist_introduced_to dist_handle_next dist_del_t_reqs dist_run dist_answer_ends dist_not_run dist_stopped dist_new_node dist_answer_permits dist_app_started dist_app_stopped dist_weight_told dist_restart dist_new_permission net_to_connect node_controlled_by node_terminated_by node_handled_by node_introduced_by system_lock_call system_wait_for_lock system_behind_sync system_go_on_call system_call_received system_connect system_delivered system_slowed system_waited_for system_booted system_called system_fired_next system_ticked system_is_ticked system_down_told system_taken_down system_ended system_stopped system_join system_has_seen system_boot_next system_made system_rested system_forgotten system_told system_after system_take_lock system_gone system_handled system_work system_mailed
is_behind = record { among = refl; started = refl; untold = refl; unmonitored = refl }

computed : Computed lost
computed = record {
  between = between;
  second_there = second_there;
  third_there = third_there;
  second = second_lost;
  third = third_lost;
  able = is_ready;
  behind = is_behind;
}

-- there are three nodes
abbrev NoMore : SystemView → Type 0
NoMore s = (k : ℕ) → is_alive_at s (record { 0 = suc (suc (suc k)) }) ≡ false

no_more : NoMore lost
unfolding controller_start controller_stop controller_permit controller_top_ends controller_do_start controller_change controller_received controller_spawn_starter controller_reply_to_requester controller_has_started controller_start_reply dist_finish dist_runs_elsewhere dist_take_over dist_permit dist_get_nodes dist_start_here dist_is_to_start dist_find_start_node dist_start_distributed dist_start_appl dist_check_waiting dist_node_down dist_introduced_to dist_handle_next dist_del_t_reqs dist_run dist_answer_ends dist_not_run dist_stopped dist_new_node dist_answer_permits dist_app_started dist_app_stopped dist_weight_told dist_restart dist_new_permission net_to_connect node_controlled_by node_terminated_by node_handled_by node_introduced_by system_lock_call system_wait_for_lock system_behind_sync system_go_on_call system_call_received system_connect system_delivered system_slowed system_waited_for system_booted system_called system_fired_next system_ticked system_is_ticked system_down_told system_taken_down system_ended system_stopped system_join system_has_seen system_boot_next system_made system_rested system_forgotten system_told system_after system_take_lock system_gone system_handled system_work system_mailed
no_more zero = refl
no_more (suc k) = refl

is_quiet : is_settled_by 1000 FirstComes (crashed n1 all_up) ≡ true
unfolding controller_start controller_stop controller_permit controller_top_ends controller_do_start controller_change controller_received controller_spawn_starter controller_reply_to_requester controller_has_started controller_start_reply dist_finish dist_runs_elsewhere dist_take_over dist_permit dist_get_nodes dist_start_here dist_is_to_start dist_find_start_node dist_start_distributed dist_start_appl dist_check_waiting dist_node_down dist_introduced_to dist_handle_next dist_del_t_reqs dist_run dist_answer_ends dist_not_run dist_stopped dist_new_node dist_answer_permits dist_app_started dist_app_stopped dist_weight_told dist_restart dist_new_permission net_to_connect node_controlled_by node_terminated_by node_handled_by node_introduced_by system_lock_call system_wait_for_lock system_behind_sync system_go_on_call system_call_received system_connect system_delivered system_slowed system_waited_for system_booted system_called system_fired_next system_ticked system_is_ticked system_down_told system_taken_down system_ended system_stopped system_join system_has_seen system_boot_next system_made system_rested system_forgotten system_told system_after system_take_lock system_gone system_handled system_work system_mailed
is_quiet = refl

nobody_yet : (k : ℕ) → node_at none_begun (record { 0 = k }) ≡ never_begun
nobody_yet zero = refl
nobody_yet (suc zero) = refl
nobody_yet (suc (suc zero)) = refl
nobody_yet (suc (suc (suc zero))) = refl
nobody_yet (suc (suc (suc (suc k)))) = refl

first_reached : IsReached none_begun
first_reached = new none_begun (record {
  nodes = λ n. nobody_yet n.0;
  alive = refl;
  links = refl;
  locks = refl;
  timers = refl;
  calls = refl;
  messages = refl;
  slow = refl;
})

begins_at : (s : SystemView) (n : Node) (v : LiveView) → live_at s n ≡ Some v → is_alive_at s n ≡ false → IsReached s
    → IsReached (quiet (booted n s))
begins_at s n v there dead reached =
    commands_reached.settles_there 1000 FirstComes (booted n s) (later s (booted n s) reached (acts s (booted n s) (begins s n (v, there) dead)))

two_reached : IsReached two_up
unfolding controller_start controller_stop controller_permit controller_top_ends controller_do_start controller_change controller_received controller_spawn_starter controller_reply_to_requester controller_has_started controller_start_reply dist_finish dist_runs_elsewhere dist_take_over dist_permit dist_get_nodes dist_start_here dist_is_to_start dist_find_start_node dist_start_distributed dist_start_appl dist_check_waiting dist_node_down dist_introduced_to dist_handle_next dist_del_t_reqs dist_run dist_answer_ends dist_not_run dist_stopped dist_new_node dist_answer_permits dist_app_started dist_app_stopped dist_weight_told dist_restart dist_new_permission net_to_connect node_controlled_by node_terminated_by node_handled_by node_introduced_by system_lock_call system_wait_for_lock system_behind_sync system_go_on_call system_call_received system_connect system_delivered system_slowed system_waited_for system_booted system_called system_fired_next system_ticked system_is_ticked system_down_told system_taken_down system_ended system_stopped system_join system_has_seen system_boot_next system_made system_rested system_forgotten system_told system_after system_take_lock system_gone system_handled system_work system_mailed
two_reached =
    begins_at one_up n2 never_begun refl refl
    (begins_at none_begun n1 never_begun refl refl first_reached)

all_reached : IsReached all_up
unfolding controller_start controller_stop controller_permit controller_top_ends controller_do_start controller_change controller_received controller_spawn_starter controller_reply_to_requester controller_has_started controller_start_reply dist_finish dist_runs_elsewhere dist_take_over dist_permit dist_get_nodes dist_start_here dist_is_to_start dist_find_start_node dist_start_distributed dist_start_appl dist_check_waiting dist_node_down dist_introduced_to dist_handle_next dist_del_t_reqs dist_run dist_answer_ends dist_not_run dist_stopped dist_new_node dist_answer_permits dist_app_started dist_app_stopped dist_weight_told dist_restart dist_new_permission net_to_connect node_controlled_by node_terminated_by node_handled_by node_introduced_by system_lock_call system_wait_for_lock system_behind_sync system_go_on_call system_call_received system_connect system_delivered system_slowed system_waited_for system_booted system_called system_fired_next system_ticked system_is_ticked system_down_told system_taken_down system_ended system_stopped system_join system_has_seen system_boot_next system_made system_rested system_forgotten system_told system_after system_take_lock system_gone system_handled system_work system_mailed
all_reached = begins_at two_up n3 never_begun refl refl two_reached

-- ---- so the law is of it

has_it : (o : Option DistView) (d : DistView) → is_some o ≡ true → o ≡ Some (unwrap_or o d)
has_it None d is = absurd (false≢true is)
has_it (Some e) d is = refl

dist_there : (s : SystemView) (n : Node) → IsThere n s → (node_at s n).dist ≡ Some (dist_of s n)
dist_there s n is = has_it (node_at s n).dist (beginning 0 0 n []) is.has

at_rest : (s : SystemView) (n : Node) → IsThere n s → (d : DistView) → (node_at s n).dist ≡ Some d → IsUnoccupied d
at_rest s n is d has = subst IsUnoccupied (same_Some (dist_of s n) d (sym (dist_there s n is) ∙ has)) (record {
  stand = inl is.takes_all;
  mail = subst (All (λ (m : Message). takes (dist_of s n).stand m ≡ false)) (sym is.mail)
      (All-nil (λ (m : Message). takes (dist_of s n).stand m ≡ false));
  permits = is.permits;
  parked = is.parked;
})

-- what is so of the two that are alive is so of all that are
of_both : (P : Node → Type 0) (s : SystemView) → Computed s → NoMore s → P n2 → P n3 → (k : ℕ)
    → is_alive_at s (record { 0 = k }) ≡ true → P (record { 0 = k })
of_both P s c none second third zero alive = absurd (false≢true (sym c.between.down ∙ alive))
of_both P s c none second third (suc zero) alive = second
of_both P s c none second third (suc (suc zero)) alive = third
of_both P s c none second third (suc (suc (suc k))) alive = absurd (false≢true (sym (none k) ∙ alive))

are_at_rest : (s : SystemView) → Computed s → NoMore s → IsSettled s → AreAtRest s
are_at_rest s c none settled = record {
  settled = settled;
  calls = c.between.calls;
  dists = λ n d alive has.
      of_both (λ (m : Node). (e : DistView) → (node_at s m).dist ≡ Some e → IsUnoccupied e) s c none (at_rest s n2 c.second_there)
      (at_rest s n3 c.third_there) n.0 alive d has;
}

once : (one other : Node × ℕ) (b c : Bool) → (b ≡ true → c ≡ true → ⊥)
    → length (cond b (one ∷ cond c (other ∷ []) []) (cond c (other ∷ []) [])) ≤ 1
once one other true true both = absurd (both refl refl)
once one other true false both = omega arith
once one other false true both = omega arith
once one other false false both = omega arith

not_both : (k : ℕ) → (1 == k) ≡ true → (2 == k) ≡ true → ⊥
not_both k one two =
    let is_one : 1 ≡ k = eqb-true 1 k one in
    let is_two : 2 ≡ k = eqb-true 2 k two in
    omega (arith, is_one, is_two)

fails_over : (s : SystemView) → Computed s → NoMore s → FailsOverAt n2 d1 s
fails_over s c none = record {
  due = 5000;
  step = 0;
  next = c.between.due;
  losses = (n2, 1) ∷ (n3, 1) ∷ [];
  fire = c.between.fire ∙ (λ i. loss_at n2 (sym c.second_there.life i) ∷ loss_at n3 (sym c.third_there.life i) ∷ []);
  once = λ m. once (n2, 1) (n3, 1) (1 == m.0) (2 == m.0) (not_both m.0);
  first = record {
    dist = dist_of s n2;
    has = dist_there s n2 c.second_there;
    takes_all = c.second_there.takes_all;
    gone = n1;
    lost = c.second.gone;
    first = c.second.first;
    unknown = c.second.unknown;
  };
  able = record { needs = c.able.needs; requests = c.able.requests };
  sees_all = record {
    takeovers = λ d has. ap (λ (x : DistView). x.t_reqs) (sym (same_Some (dist_of s n2) d (sym (dist_there s n2 c.second_there) ∙ has))) ∙ c.able.takeovers;
    sees = λ d has m among alive. of_both (λ (k : Node). (n2.0 == k.0 || are_linked n2 k s.links) ≡ true) s c none refl c.between.sees m.0 alive;
  };
  others = λ m other among alive.
      of_both (λ (k : Node). k.0 ≢ n2.0 → StandsBy k n2 d1 s ⊎ IsOver d1 (node_at s k)) s c none (λ itself. absurd (itself refl))
      (λ itself. inl (record {
        standby = record {
          dist = dist_of s n3;
          has = dist_there s n3 c.third_there;
          takes_all = c.third_there.takes_all;
          gone = n1;
          lost = c.third.gone;
          among = c.behind.among;
          waits = c.third.first;
          started = c.behind.started;
          unknown = c.third.unknown;
          untold = subst (λ (l : List Told). without_told d1 l ≡ l) (sym c.behind.untold) refl;
          unmonitored = c.behind.unmonitored;
        };
        alive = c.second_there.alive;
        sees = c.between.sees_too;
      })) m.0 alive other;
}

-- There are such failovers: with a standby.
record Row : Type 0 where
  is_reached : IsReached lost
  is_at_rest : AreAtRest lost
  is_failover : FailsOverAt n2 d1 lost

row : Row
row = record {
  is_reached = commands_reached.settles_there 1000 FirstComes (crashed n1 all_up)
      (later all_up (crashed n1 all_up) all_reached (acts all_up (crashed n1 all_up) (crashes all_up n1)));
  is_at_rest = are_at_rest lost computed no_more ((settles 1000 FirstComes (crashed n1 all_up)).1 is_quiet);
  is_failover = fails_over lost computed no_more;
}
