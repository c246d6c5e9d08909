-- Rehearsals of tests/live, as real nodes of OTP 25.2.3 made them, computed as a whole: what each command comes to. Among the lines of one
-- command the order is that in which the model in companions/rehearse_tools/otp25 tells them.
use Rattle.std.proofs.Common.{◌≡◌, ℕ, true, false, Some, None, List, [], ◌∷◌, refl}
use Rattle.rh_model.specs.ClusterView.{ClusterView, NodeView, AppView, numbered, app_numbered}
use Rattle.rh_model.specs.declared.node.App.{App}
use Rattle.rh_model.specs.declared.node.Node.{Node}
use Rattle.rh_model.specs.declared.settings.Restart.{Restart}
use Rattle.rh_model.specs.declared.settings.Restart.TheVariants.{Permanent}
use Rattle.rh_model.specs.declared.settings.SyncWait.TheVariants.{Unset, After}
use Rattle.rh_rules.specs.declared.event.Event.TheVariants as event
use Rattle.rh_rules.specs.declared.refusal.Refusal.TheVariants as refusal
use Rattle.rh_otp_model.specs.declared.process.StartType.TheVariants.{Normal}
use Rattle.rh_otp_model.specs.declared.wait.OwnFile.{OwnFile}
use Rattle.rh_otp_model.specs.declared.wait.Wait.TheVariants as wait
use Rattle.rh_otp_model.specs.Own.{OwnView}
use Rattle.rh_otp_net.specs.declared.order.Order.TheVariants.{FirstComes}
use Rattle.rh_otp_sim.specs.declared.lines.Answer.TheVariants.{Told, NoAnswer}
use Rattle.rh_otp_sim.specs.declared.lines.Line.TheVariants as line
use Rattle.rh_otp_sim.specs.declared.stepping.Outcome.TheVariants as outcome
use Rattle.rh_otp_sim.specs.declared.verdict.Verdict.TheVariants.{Done}
use Rattle.rh_otp_controller.specs.Calls.{start as controller_start, stop as controller_stop, permit as controller_permit, top_ends as controller_top_ends}
use Rattle.rh_otp_controller.specs.Changes.{do_start as controller_do_start, change as controller_change, received as controller_received}
use Rattle.rh_otp_controller.specs.Starting.{spawn_starter as controller_spawn_starter, reply_to_requester as controller_reply_to_requester, has_started as controller_has_started, start_reply as controller_start_reply}
use Rattle.rh_otp_dist.specs.Attempts.{finish as dist_finish, runs_elsewhere as dist_runs_elsewhere}
use Rattle.rh_otp_dist.specs.Calls.{take_over as dist_take_over, permit as dist_permit, get_nodes as dist_get_nodes}
use Rattle.rh_otp_dist.specs.Choosing.{start_here as dist_start_here, is_to_start as dist_is_to_start, find_start_node as dist_find_start_node, start_distributed as dist_start_distributed, start_appl as dist_start_appl}
use Rattle.rh_otp_dist.specs.Down.{check_waiting as dist_check_waiting, node_down as dist_node_down}
use Rattle.rh_otp_dist.specs.Outside.{introduced_to as dist_introduced_to}
use Rattle.rh_otp_dist.specs.Received.{handle_next as dist_handle_next}
use Rattle.rh_otp_dist.specs.Sending.{del_t_reqs as dist_del_t_reqs}
use Rattle.rh_otp_dist.specs.Told.{run as dist_run, answer_ends as dist_answer_ends, not_run as dist_not_run, stopped as dist_stopped, new_node as dist_new_node, answer_permits as dist_answer_permits, app_started as dist_app_started, app_stopped as dist_app_stopped, weight_told as dist_weight_told, restart as dist_restart, new_permission as dist_new_permission}
use Rattle.rh_otp_net.specs.Links.{to_connect as net_to_connect}
use Rattle.rh_otp_node.specs.Turns.{controlled_by as node_controlled_by, terminated_by as node_terminated_by, handled_by as node_handled_by, introduced_by as node_introduced_by}
use Rattle.rh_otp_system.specs.Calling.{lock_call as system_lock_call, wait_for_lock as system_wait_for_lock, behind_sync as system_behind_sync, go_on_call as system_go_on_call, call_received as system_call_received}
use Rattle.rh_otp_system.specs.Connecting.{connect as system_connect}
use Rattle.rh_otp_system.specs.Delivering.{delivered as system_delivered, slowed as system_slowed}
use Rattle.rh_otp_system.specs.Doing.{waited_for as system_waited_for, booted as system_booted, called as system_called, fired_next as system_fired_next, ticked as system_ticked, is_ticked as system_is_ticked}
use Rattle.rh_otp_system.specs.Ending.{down_told as system_down_told, taken_down as system_taken_down, ended as system_ended, stopped as system_stopped}
use Rattle.rh_otp_system.specs.Joining.{join as system_join, has_seen as system_has_seen, boot_next as system_boot_next}
use Rattle.rh_otp_system.specs.Moves.{made as system_made}
use Rattle.rh_otp_system.specs.Resting.{rested as system_rested, forgotten as system_forgotten}
use Rattle.rh_otp_system.specs.Sending.{told as system_told, after as system_after}
use Rattle.rh_otp_system.specs.Working.{take_lock as system_take_lock, gone as system_gone, handled as system_handled, work as system_work, mailed as system_mailed}
use Rattle.rh_otp_system.specs.Doing.{booted, waited_for}
use Rattle.rh_otp_system.specs.Resting.{forgotten, rested}
use Rattle.rh_otp_system.specs.Sending.{after}
use Rattle.rh_otp_sim.specs.Acting.{acted, is_acted, acted_at_once, is_quiet_at_once}
use Rattle.rh_otp_controller.specs.declared.state.Place.TheVariants.{Here}
use Rattle.rh_otp_model.specs.Rows.{keyfind}
use Rattle.rh_otp_sim.specs.Refusing.{node_in}
use Rattle.rh_otp_sim.specs.Sim.{LiveSimView, opened}
use Rattle.rh_otp_sim.specs.Stepping.{outcome_of, stepped}

-- ---- forbidden-start-waits: a node where an application is forbidden boots it, and its boot script hangs until a node that is permitted
-- starts it

abbrev n1 : Node
n1 = numbered 0

abbrev n2 : Node
n2 = numbered 1

abbrev d1 : App
d1 = app_numbered 0

abbrev l1 : App
l1 = app_numbered 1

abbrev cluster : ClusterView
cluster = record {
  profile = 2;
  node_names = (97 ∷ []) ∷ (98 ∷ []) ∷ [];
  app_names = (97 ∷ []) ∷ (98 ∷ []) ∷ [];
  platform_names = [];
  nodes = record {
    mandatory = [];
    optional = n2 ∷ [];
    sync_wait = After 12000;
    boot = (d1, Permanent) ∷ (l1, Permanent) ∷ [];
    permissions = false ∷ true ∷ [];
    platforms = [];
  } ∷ record {
    mandatory = [];
    optional = n1 ∷ [];
    sync_wait = After 12000;
    boot = (l1, Permanent) ∷ [];
    permissions = true ∷ true ∷ [];
    platforms = [];
  } ∷ [];
  apps = record {
    deps = [];
    start_arg = None;
    phases = false;
    spread = Some (record { timeout = 0; groups = (n2 ∷ []) ∷ (n1 ∷ []) ∷ [] });
  } ∷ record { deps = []; start_arg = None; phases = false; spread = None } ∷ [];
}

abbrev own : OwnView
own = record {
  has_dist = true;
  entries = record {
    app = d1;
    timeout = 0;
    places = record { is_tuple = false; nodes = n2 ∷ [] } ∷ record { is_tuple = false; nodes = n1 ∷ [] } ∷ [];
  } ∷ [];
}

abbrev file : OwnFile
file = record { own = own; wait = wait.After 12000 }

abbrev first : LiveSimView
first = opened cluster (file ∷ file ∷ []) FirstComes

abbrev waiting : LiveSimView
waiting = stepped (event.Boot n1) first

abbrev hanging : LiveSimView
hanging = stepped (event.Boot n2) waiting

-- what each command comes to
record HangingStart : Type 0 where
  -- a node waits for the other one
  waits_alone : outcome_of (event.Boot n1) first ≡ outcome.Done (record { answer = Told Done; lines = [] })
  -- both are up: the boot script of the first node hangs at the application that is forbidden there
  hangs : outcome_of (event.Boot n2) waiting ≡ outcome.Done (record {
    answer = Told Done;
    lines = line.Up n2 ∷ line.Up n1 ∷ line.Started l1 n2 Normal ∷ line.Pending d1 n1 ∷ [];
  })
  -- the application can be started at the other node, and then the boot script goes on
  goes_on : outcome_of (event.Start n2 d1 Permanent) hanging ≡ outcome.Done (record {
    answer = Told Done;
    lines = line.Started d1 n2 Normal ∷ line.Started l1 n1 Normal ∷ line.Waits d1 n1 ∷ [];
  })
  -- a start at the node where it is forbidden hangs, and so does the call
  no_answer : outcome_of (event.Start n1 d1 Permanent) hanging ≡ outcome.Done (record { answer = NoAnswer; lines = [] })
  -- a node that isn't up takes no call
  too_early : outcome_of (event.Start n1 d1 Permanent) waiting ≡ outcome.Refused refusal.NodeNotUp

hanging_start : HangingStart
unfolding is_acted acted is_quiet_at_once acted_at_once controller_start controller_stop controller_permit controller_top_ends controller_do_start controller_change controller_received controller_spawn_starter controller_reply_to_requester controller_has_started controller_start_reply dist_finish dist_runs_elsewhere dist_take_over dist_permit dist_get_nodes dist_start_here dist_is_to_start dist_find_start_node dist_start_distributed dist_start_appl dist_check_waiting dist_node_down dist_introduced_to dist_handle_next dist_del_t_reqs dist_run dist_answer_ends dist_not_run dist_stopped dist_new_node dist_answer_permits dist_app_started dist_app_stopped dist_weight_told dist_restart dist_new_permission net_to_connect node_controlled_by node_terminated_by node_handled_by node_introduced_by system_lock_call system_wait_for_lock system_behind_sync system_go_on_call system_call_received system_connect system_delivered system_slowed system_waited_for system_booted system_called system_fired_next system_ticked system_is_ticked system_down_told system_taken_down system_ended system_stopped system_join system_has_seen system_boot_next system_made system_rested system_forgotten system_told system_after system_take_lock system_gone system_handled system_work system_mailed
hanging_start = record { waits_alone = refl; hangs = refl; goes_on = refl; no_answer = refl; too_early = refl }

-- ---- no-sync-lists: nodes without sync lists never connect, and each runs its own instance. So that at most one instance runs, as the
-- first rules have it, doesn't hold of live nodes.

abbrev m1 : Node
m1 = numbered 0

abbrev m2 : Node
m2 = numbered 1

abbrev m3 : Node
m3 = numbered 2

abbrev load : App
load = app_numbered 0

abbrev job : App
job = app_numbered 1

abbrev silent : List (App × Restart) → NodeView
silent boot = record {
  mandatory = [];
  optional = [];
  sync_wait = Unset;
  boot = boot;
  permissions = true ∷ true ∷ [];
  platforms = [];
}

abbrev apart : ClusterView
apart = record {
  profile = 1;
  node_names = (97 ∷ []) ∷ (98 ∷ []) ∷ (99 ∷ []) ∷ [];
  app_names = (97 ∷ []) ∷ (98 ∷ []) ∷ [];
  platform_names = [];
  nodes = silent ((load, Permanent) ∷ (job, Permanent) ∷ []) ∷ silent ((job, Permanent) ∷ []) ∷ silent ((job, Permanent) ∷ []) ∷ [];
  apps = record { deps = []; start_arg = None; phases = false; spread = None } ∷ record {
    deps = [];
    start_arg = None;
    phases = false;
    spread = Some (record { timeout = 0; groups = (m1 ∷ m2 ∷ []) ∷ (m3 ∷ []) ∷ [] });
  } ∷ [];
}

abbrev silent_file : OwnFile
silent_file = record {
  own = record {
    has_dist = true;
    entries = record {
      app = job;
      timeout = 0;
      places = record { is_tuple = true; nodes = m1 ∷ m2 ∷ [] } ∷ record { is_tuple = false; nodes = m3 ∷ [] } ∷ [];
    } ∷ [];
  };
  wait = wait.Unset;
}

abbrev third : LiveSimView
third = opened apart (silent_file ∷ silent_file ∷ silent_file ∷ []) FirstComes

abbrev one : LiveSimView
one = stepped (event.Boot m3) third

abbrev two : LiveSimView
two = stepped (event.Boot m1) one

-- it runs at both
runs_at_both : (keyfind job (node_in two m1).controller.running ≡ Some Here) × (keyfind job (node_in two m3).controller.running ≡ Some Here)
unfolding is_acted acted is_quiet_at_once acted_at_once controller_start controller_stop controller_permit controller_top_ends controller_do_start controller_change controller_received controller_spawn_starter controller_reply_to_requester controller_has_started controller_start_reply dist_finish dist_runs_elsewhere dist_take_over dist_permit dist_get_nodes dist_start_here dist_is_to_start dist_find_start_node dist_start_distributed dist_start_appl dist_check_waiting dist_node_down dist_introduced_to dist_handle_next dist_del_t_reqs dist_run dist_answer_ends dist_not_run dist_stopped dist_new_node dist_answer_permits dist_app_started dist_app_stopped dist_weight_told dist_restart dist_new_permission net_to_connect node_controlled_by node_terminated_by node_handled_by node_introduced_by system_lock_call system_wait_for_lock system_behind_sync system_go_on_call system_call_received system_connect system_delivered system_slowed system_waited_for system_booted system_called system_fired_next system_ticked system_is_ticked system_down_told system_taken_down system_ended system_stopped system_join system_has_seen system_boot_next system_made system_rested system_forgotten system_told system_after system_take_lock system_gone system_handled system_work system_mailed
runs_at_both = (refl, refl)

-- what each command comes to, and what runs then
record TwoInstances : Type 0 where
  first_instance : outcome_of (event.Boot m3) third ≡ outcome.Done (record {
    answer = Told Done;
    lines = line.Up m3 ∷ line.Started job m3 Normal ∷ [];
  })
  -- the better node starts it by itself, and doesn't take it over
  second_instance : outcome_of (event.Boot m1) one ≡ outcome.Done (record {
    answer = Told Done;
    lines = line.Up m1 ∷ line.Started load m1 Normal ∷ line.Started job m1 Normal ∷ [];
  })
  -- it runs at both
  runs_at_both : (keyfind job (node_in two m1).controller.running ≡ Some Here) × (keyfind job (node_in two m3).controller.running ≡ Some Here)

two_instances : TwoInstances
unfolding is_acted acted is_quiet_at_once acted_at_once controller_start controller_stop controller_permit controller_top_ends controller_do_start controller_change controller_received controller_spawn_starter controller_reply_to_requester controller_has_started controller_start_reply dist_finish dist_runs_elsewhere dist_take_over dist_permit dist_get_nodes dist_start_here dist_is_to_start dist_find_start_node dist_start_distributed dist_start_appl dist_check_waiting dist_node_down dist_introduced_to dist_handle_next dist_del_t_reqs dist_run dist_answer_ends dist_not_run dist_stopped dist_new_node dist_answer_permits dist_app_started dist_app_stopped dist_weight_told dist_restart dist_new_permission net_to_connect node_controlled_by node_terminated_by node_handled_by node_introduced_by system_lock_call system_wait_for_lock system_behind_sync system_go_on_call system_call_received system_connect system_delivered system_slowed system_waited_for system_booted system_called system_fired_next system_ticked system_is_ticked system_down_told system_taken_down system_ended system_stopped system_join system_has_seen system_boot_next system_made system_rested system_forgotten system_told system_after system_take_lock system_gone system_handled system_work system_mailed
two_instances = record { first_instance = refl; second_instance = refl; runs_at_both = (refl, refl) }
