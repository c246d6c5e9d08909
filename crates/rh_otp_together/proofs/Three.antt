-- Three nodes that are to begin their boot scripts, of which the third doesn't boot two applications: all have the same `distributed`,
-- where that one isn't in the lists of these. They have waited for one another, and have synchronised.
use Rattle.std.proofs.Common.{◌≡◌, true, false, List, [], ◌∷◌, is_some, Some, None, refl}
use Rattle.rh_model.specs.ClusterView.{ClusterView, NodeView, numbered}
use Rattle.rh_model.specs.declared.node.App.{App}
use Rattle.rh_model.specs.declared.node.Node.{Node}
use Rattle.rh_model.specs.declared.settings.Restart.{Restart}
use Rattle.rh_model.specs.declared.settings.Restart.TheVariants.{Temporary}
use Rattle.rh_model.specs.declared.settings.SyncWait.TheVariants.{After}
use Rattle.rh_otp_model.specs.declared.wait.OwnFile.{OwnFile}
use Rattle.rh_otp_model.specs.declared.wait.Wait.TheVariants as wait
use Rattle.rh_otp_model.specs.Own.{EntryView, WrittenView}
use Rattle.rh_otp_controller.specs.Calls.{start as controller_start, stop as controller_stop, permit as controller_permit, top_ends as controller_top_ends}
use Rattle.rh_otp_controller.specs.Changes.{do_start as controller_do_start, change as controller_change, received as controller_received}
use Rattle.rh_otp_controller.specs.Starting.{spawn_starter as controller_spawn_starter, reply_to_requester as controller_reply_to_requester, has_started as controller_has_started, start_reply as controller_start_reply}
use Rattle.rh_otp_dist.specs.Attempts.{finish as dist_finish, runs_elsewhere as dist_runs_elsewhere}
use Rattle.rh_otp_dist.specs.Calls.{take_over as dist_take_over, permit as dist_permit, get_nodes as dist_get_nodes}
use Rattle.rh_otp_dist.specs.Choosing.{start_here as dist_start_here, is_to_start as dist_is_to_start, find_start_node as dist_find_start_node, start_distributed as dist_start_distributed, start_appl as dist_start_appl}
use Rattle.rh_otp_dist.specs.Down.{check_waiting as dist_check_waiting, node_down as dist_node_down}
use Rattle.rh_otp_dist.specs.Outside.{introduced_to as dist_introduced_to}
use Rattle.rh_otp_dist.specs.Received.{handle_next as dist_handle_next}
use Rattle.rh_otp_dist.specs.Sending.{del_t_reqs as dist_del_t_reqs}
use Rattle.rh_otp_dist.specs.Told.{run as dist_run, answer_ends as dist_answer_ends, not_run as dist_not_run, stopped as dist_stopped, new_node as dist_new_node, answer_permits as dist_answer_permits, app_started as dist_app_started, app_stopped as dist_app_stopped, weight_told as dist_weight_told, restart as dist_restart, new_permission as dist_new_permission}
use Rattle.rh_otp_net.specs.Links.{to_connect as net_to_connect}
use Rattle.rh_otp_node.specs.Turns.{controlled_by as node_controlled_by, terminated_by as node_terminated_by, handled_by as node_handled_by, introduced_by as node_introduced_by}
use Rattle.rh_otp_system.specs.Calling.{lock_call as system_lock_call, wait_for_lock as system_wait_for_lock, behind_sync as system_behind_sync, go_on_call as system_go_on_call, call_received as system_call_received}
use Rattle.rh_otp_system.specs.Connecting.{connect as system_connect}
use Rattle.rh_otp_system.specs.Delivering.{delivered as system_delivered, slowed as system_slowed}
use Rattle.rh_otp_system.specs.Doing.{waited_for as system_waited_for, booted as system_booted, called as system_called, fired_next as system_fired_next, ticked as system_ticked, is_ticked as system_is_ticked}
use Rattle.rh_otp_system.specs.Ending.{down_told as system_down_told, taken_down as system_taken_down, ended as system_ended, stopped as system_stopped}
use Rattle.rh_otp_system.specs.Joining.{join as system_join, has_seen as system_has_seen, boot_next as system_boot_next}
use Rattle.rh_otp_system.specs.Moves.{made as system_made}
use Rattle.rh_otp_system.specs.Resting.{rested as system_rested, forgotten as system_forgotten}
use Rattle.rh_otp_system.specs.Sending.{told as system_told, after as system_after}
use Rattle.rh_otp_system.specs.Working.{take_lock as system_take_lock, gone as system_gone, handled as system_handled, work as system_work, mailed as system_mailed}
use Rattle.rh_otp_controller.specs.First.{first}
use Rattle.rh_otp_dist.specs.declared.state.Stand.TheVariants as stand
use Rattle.rh_otp_dist.specs.State.{unknown_appl}
use Rattle.rh_otp_net.specs.declared.order.Order.TheVariants.{FirstComes}
use Rattle.rh_otp_net.specs.Links.{are_linked}
use Rattle.rh_otp_node.specs.declared.node.Phase.TheVariants as phase
use Rattle.rh_otp_node.specs.Live.{never_begun, permission_rows}
use Rattle.rh_otp_system.specs.declared.cell.Cell.TheVariants as cell
use Rattle.rh_otp_system.specs.declared.slow.Slow.TheVariants.{Boot}
use Rattle.rh_otp_system.specs.Doing.{booted}
use Rattle.rh_otp_system.specs.Moves.{settled}
use Rattle.rh_otp_system.specs.State.{SystemView, system_of, node_at, is_alive_at}
use Rattle.rh_otp_stops.proofs.Rows.{n1, n2, d1, l1, no_net, quiet, dist_of}
use Rattle.rh_otp_together.proofs.Rows.{d2, flags}

-- ---- the cluster

abbrev pub n3 : Node
n3 = numbered 2

-- it waits for these, and starts these applications
abbrev node_of : List Node → List Node → List (App × Restart) → NodeView
node_of mandatory optional boot = record {
  mandatory = mandatory;
  optional = optional;
  sync_wait = After 12000;
  boot = boot;
  permissions = true ∷ true ∷ true ∷ [];
  platforms = [];
}

-- all three, or the one that the third node starts
abbrev all_three : List (App × Restart)
all_three = (d1, Temporary) ∷ (l1, Temporary) ∷ (d2, Temporary) ∷ []

abbrev its_own : List (App × Restart)
its_own = (l1, Temporary) ∷ []

abbrev pub cluster : ClusterView
cluster = record {
  profile = 1;
  node_names = (97 ∷ []) ∷ (98 ∷ []) ∷ (99 ∷ []) ∷ [];
  app_names = (97 ∷ []) ∷ (98 ∷ []) ∷ (99 ∷ []) ∷ [];
  platform_names = [];
  nodes = node_of (n2 ∷ n3 ∷ []) [] all_three ∷ node_of (n1 ∷ n3 ∷ []) [] all_three ∷ node_of [] (n1 ∷ n2 ∷ []) its_own ∷ [];
  apps = record {
    deps = [];
    start_arg = None;
    phases = false;
    spread = Some (record { timeout = 5000; groups = (n1 ∷ []) ∷ (n2 ∷ []) ∷ [] });
  } ∷ record { deps = []; start_arg = None; phases = false; spread = None } ∷ record {
    deps = [];
    start_arg = None;
    phases = false;
    spread = Some (record { timeout = 5000; groups = (n1 ∷ []) ∷ (n2 ∷ []) ∷ [] });
  } ∷ [];
}

-- a place of a list that is no tuple
abbrev alone : Node → WrittenView
alone n = record { is_tuple = false; nodes = n ∷ [] }

abbrev entry : App → List WrittenView → EntryView
entry a places = record { app = a; timeout = 5000; places = places }

-- the same at all nodes
abbrev pub file : OwnFile
file = record {
  own = record { has_dist = true; entries = entry d1 (alone n1 ∷ alone n2 ∷ []) ∷ entry d2 (alone n1 ∷ alone n2 ∷ []) ∷ [] };
  wait = wait.Forever;
}

abbrev none_begun : SystemView
none_begun =
    system_of cluster (file ∷ file ∷ file ∷ [])
    (cell.Node never_begun ∷ cell.Node never_begun ∷ cell.Node never_begun ∷ cell.Net no_net ∷ []) no_net true

abbrev one_waits : SystemView
one_waits = quiet (booted n1 none_begun)

abbrev two_wait : SystemView
two_wait = quiet (booted n2 one_waits)

-- behind so many moves all have joined, and their dist_acs know one another
abbrev pub gathered : SystemView
gathered = settled 16 FirstComes (booted n3 two_wait)

-- ---- what the prover computes of it

pub record At (m one other : Node) (others : List Node) (s : SystemView) : Type 0 where
  pub alive : is_alive_at s m ≡ true
  pub up : (node_at s m).phase ≡ phase.Up
  pub place : (node_at s m).place ≡ 0
  pub controller : (node_at s m).controller ≡ first (permission_rows cluster m)
  pub has : is_some (node_at s m).dist ≡ true
  pub idle : (dist_of s m).stand ≡ stand.Idle
  pub mail : (dist_of s m).mail ≡ []
  pub runs : (dist_of s m).remote_started ≡ []
  pub started : (dist_of s m).started ≡ []
  pub locals : (dist_of s m).tmp_locals ≡ []
  pub weights : (dist_of s m).tmp_weights ≡ []
  pub takeovers : (dist_of s m).t_reqs ≡ []
  pub monitored : (dist_of s m).monitored ≡ []
  pub parked : (dist_of s m).parked ≡ []
  pub appls : (dist_of s m).appls ≡ unknown_appl ∷ unknown_appl ∷ unknown_appl ∷ []
  pub may : (dist_of s m).may ≡ flags ∷ flags ∷ flags ∷ []
  pub known : (dist_of s m).known ≡ others
  pub sees_one : are_linked m one s.links ≡ true
  pub sees_other : are_linked m other s.links ≡ true

pub record Computed (s : SystemView) : Type 0 where
  pub cluster : s.cluster ≡ cluster
  pub files : s.files ≡ file ∷ file ∷ file ∷ []
  pub alive : s.alive ≡ n1 ∷ n2 ∷ n3 ∷ []
  pub slow : s.slow ≡ Boot n1 ∷ Boot n3 ∷ Boot n2 ∷ []
  pub messages : s.messages ≡ []
  pub calls : s.calls ≡ []
  pub locks : s.locks ≡ []
  pub one : At n1 n2 n3 (n3 ∷ n2 ∷ n1 ∷ []) s
  pub two : At n2 n1 n3 (n3 ∷ n1 ∷ n2 ∷ []) s
  pub three : At n3 n1 n2 (n2 ∷ n1 ∷ n3 ∷ []) s

pub computed : Computed gathered
unfolding controller_start controller_stop controller_permit controller_top_ends controller_do_start controller_change controller_received controller_spawn_starter controller_reply_to_requester controller_has_started controller_start_reply dist_finish dist_runs_elsewhere dist_take_over dist_permit dist_get_nodes dist_start_here dist_is_to_start dist_find_start_node dist_start_distributed dist_start_appl dist_check_waiting dist_node_down dist_introduced_to dist_handle_next dist_del_t_reqs dist_run dist_answer_ends dist_not_run dist_stopped dist_new_node dist_answer_permits dist_app_started dist_app_stopped dist_weight_told dist_restart dist_new_permission net_to_connect node_controlled_by node_terminated_by node_handled_by node_introduced_by system_lock_call system_wait_for_lock system_behind_sync system_go_on_call system_call_received system_connect system_delivered system_slowed system_waited_for system_booted system_called system_fired_next system_ticked system_is_ticked system_down_told system_taken_down system_ended system_stopped system_join system_has_seen system_boot_next system_made system_rested system_forgotten system_told system_after system_take_lock system_gone system_handled system_work system_mailed
computed = record {
  cluster = refl;
  files = refl;
  alive = refl;
  slow = refl;
  messages = refl;
  calls = refl;
  locks = refl;
  one = record {
    alive = refl;
    up = refl;
    place = refl;
    controller = refl;
    has = refl;
    idle = refl;
    mail = refl;
    runs = refl;
    started = refl;
    locals = refl;
    weights = refl;
    takeovers = refl;
    monitored = refl;
    parked = refl;
    appls = refl;
    may = refl;
    known = refl;
    sees_one = refl;
    sees_other = refl;
  };
  two = record {
    alive = refl;
    up = refl;
    place = refl;
    controller = refl;
    has = refl;
    idle = refl;
    mail = refl;
    runs = refl;
    started = refl;
    locals = refl;
    weights = refl;
    takeovers = refl;
    monitored = refl;
    parked = refl;
    appls = refl;
    may = refl;
    known = refl;
    sees_one = refl;
    sees_other = refl;
  };
  three = record {
    alive = refl;
    up = refl;
    place = refl;
    controller = refl;
    has = refl;
    idle = refl;
    mail = refl;
    runs = refl;
    started = refl;
    locals = refl;
    weights = refl;
    takeovers = refl;
    monitored = refl;
    parked = refl;
    appls = refl;
    may = refl;
    known = refl;
    sees_one = refl;
    sees_other = refl;
  };
}
