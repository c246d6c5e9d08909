-- Calls that the laws are of. Two nodes are up, which have started four distributed applications, all with the same list, the first node
-- before the second: one that the first may run alone, and runs; one that neither may; one that the second may run alone, and runs; and one
-- that both may run, and the first runs.
use Rattle.std.proofs.Common.{◌≡◌, ◌≢◌, ◌==◌, ◌||◌, ℕ, Bool, zero, suc, true, false, [], ◌∷◌, Some, None, refl, sym, ap, subst, ◌∙◌, inl, arith}
use Rattle.std.specs.Prelude.{filter}
use Rattle.std.proofs.lemmas.Bool.{false≢true, ne_eqb}
use Rattle.rh_model.specs.ClusterView.{ClusterView, NodeView, AppView, app_numbered}
use Rattle.rh_model.specs.declared.node.App.{App}
use Rattle.rh_model.specs.declared.node.Node.{Node}
use Rattle.rh_model.specs.declared.settings.Restart.TheVariants.{Temporary}
use Rattle.rh_model.specs.declared.settings.SyncWait.TheVariants.{After}
use Rattle.rh_otp_model.specs.declared.wait.OwnFile.{OwnFile}
use Rattle.rh_otp_model.specs.declared.wait.Wait.TheVariants as wait
use Rattle.rh_otp_model.specs.Own.{EntryView, controls}
use Rattle.rh_otp_model.specs.Rows.{keyfind}
use Rattle.rh_otp_controller.specs.declared.state.Place.TheVariants as place_of
use Rattle.rh_otp_controller.specs.Starting.{lacks_running}
use Rattle.rh_otp_dist.specs.State.{DistView, is_among, may_run}
use Rattle.rh_otp_net.specs.declared.order.Order.TheVariants.{FirstComes}
use Rattle.rh_otp_net.specs.Links.{are_linked}
use Rattle.rh_otp_node.specs.Live.{never_begun}
use Rattle.rh_otp_node.specs.Turns.{controller_turn}
use Rattle.rh_otp_system.specs.declared.cell.Cell.TheVariants as cell
use Rattle.rh_otp_system.specs.Calling.{is_synchronised_at}
use Rattle.rh_otp_system.specs.Doing.{booted}
use Rattle.rh_otp_system.specs.Moves.{IsSettled, is_settled_by}
use Rattle.rh_otp_system.specs.State.{SystemView, system_of, node_at, own_at, is_alive_at}
use Rattle.rh_otp_system.proofs.Moving.{settles}
use Rattle.rh_otp_laws.specs.Acting.{IsReached, new}
use Rattle.rh_otp_crashes.specs.Crashes.{IsUnoccupied, AreAtRest}
use Rattle.rh_otp_crashes.specs.Failovers.{SeesAll}
use Rattle.rh_otp_stops.proofs.Rows.{n1, n2, d1, no_net, quiet, dist_of, IsThere, NoMore, begins_at, is_it, at_rest, of_both}
use Rattle.rh_otp_starts.specs.Starts.{IsOverBefore}
use Rattle.rh_otp_permits.specs.Permits.{is_begun}
use Rattle.rh_otp_moves.specs.Stopping.{SeesList, RunsThereAlone, StopsBehind}
use Rattle.rh_otp_moves.specs.Starting.{IsChosenThen, StartsBehind}
use Rattle.rh_otp_moves.specs.Elsewhere.{IsFoundThen, FindsElsewhere}
use Rattle.rh_otp_moves.specs.Moving.{LeavesIt, TakesIt, MovesBehind, told_of}
use Rattle.rh_otp_controller.specs.Calls.{start as controller_start, stop as controller_stop, permit as controller_permit, top_ends as controller_top_ends}
use Rattle.rh_otp_controller.specs.Changes.{do_start as controller_do_start, change as controller_change, received as controller_received}
use Rattle.rh_otp_controller.specs.Starting.{spawn_starter as controller_spawn_starter, reply_to_requester as controller_reply_to_requester, has_started as controller_has_started, start_reply as controller_start_reply}
use Rattle.rh_otp_dist.specs.Attempts.{finish as dist_finish, runs_elsewhere as dist_runs_elsewhere}
use Rattle.rh_otp_dist.specs.Calls.{take_over as dist_take_over, permit as dist_permit, get_nodes as dist_get_nodes}
use Rattle.rh_otp_dist.specs.Choosing.{start_here as dist_start_here, is_to_start as dist_is_to_start, find_start_node as dist_find_start_node, start_distributed as dist_start_distributed, start_appl as dist_start_appl}
use Rattle.rh_otp_dist.specs.Down.{check_waiting as dist_check_waiting, node_down as dist_node_down}
use Rattle.rh_otp_dist.specs.Outside.{introduced_to as dist_introduced_to}
use Rattle.rh_otp_dist.specs.Received.{handle_next as dist_handle_next}
use Rattle.rh_otp_dist.specs.Sending.{del_t_reqs as dist_del_t_reqs}
use Rattle.rh_otp_dist.specs.Told.{run as dist_run, answer_ends as dist_answer_ends, not_run as dist_not_run, stopped as dist_stopped, new_node as dist_new_node, answer_permits as dist_answer_permits, app_started as dist_app_started, app_stopped as dist_app_stopped, weight_told as dist_weight_told, restart as dist_restart, new_permission as dist_new_permission}
use Rattle.rh_otp_net.specs.Links.{to_connect as net_to_connect}
use Rattle.rh_otp_node.specs.Turns.{controlled_by as node_controlled_by, terminated_by as node_terminated_by, handled_by as node_handled_by, introduced_by as node_introduced_by}
use Rattle.rh_otp_system.specs.Calling.{lock_call as system_lock_call, wait_for_lock as system_wait_for_lock, behind_sync as system_behind_sync, go_on_call as system_go_on_call, call_received as system_call_received}
use Rattle.rh_otp_system.specs.Connecting.{connect as system_connect}
use Rattle.rh_otp_system.specs.Delivering.{delivered as system_delivered, slowed as system_slowed}
use Rattle.rh_otp_system.specs.Doing.{waited_for as system_waited_for, booted as system_booted, called as system_called, fired_next as system_fired_next, ticked as system_ticked, is_ticked as system_is_ticked}
use Rattle.rh_otp_system.specs.Ending.{down_told as system_down_told, taken_down as system_taken_down, ended as system_ended, stopped as system_stopped}
use Rattle.rh_otp_system.specs.Joining.{join as system_join, has_seen as system_has_seen, boot_next as system_boot_next}
use Rattle.rh_otp_system.specs.Moves.{made as system_made}
use Rattle.rh_otp_system.specs.Resting.{rested as system_rested, forgotten as system_forgotten}
use Rattle.rh_otp_system.specs.Sending.{told as system_told, after as system_after}
use Rattle.rh_otp_system.specs.Working.{take_lock as system_take_lock, gone as system_gone, handled as system_handled, work as system_work, mailed as system_mailed}

-- ---- the cluster

abbrev d2 : App
d2 = app_numbered 1

abbrev d3 : App
d3 = app_numbered 2

abbrev d4 : App
d4 = app_numbered 3

-- it waits for the other one, and starts all four; of the first and the third it may run one
abbrev node_of : Node → Bool → Bool → NodeView
node_of other first third = record {
  mandatory = [];
  optional = other ∷ [];
  sync_wait = After 12000;
  boot = (d1, Temporary) ∷ (d2, Temporary) ∷ (d3, Temporary) ∷ (d4, Temporary) ∷ [];
  permissions = first ∷ false ∷ third ∷ true ∷ [];
  platforms = [];
}

abbrev listed : AppView
listed = record {
  deps = [];
  start_arg = None;
  phases = false;
  spread = Some (record { timeout = 5000; groups = (n1 ∷ []) ∷ (n2 ∷ []) ∷ [] });
}

abbrev cluster : ClusterView
cluster = record {
  profile = 1;
  node_names = (97 ∷ []) ∷ (98 ∷ []) ∷ [];
  app_names = (97 ∷ []) ∷ (98 ∷ []) ∷ (99 ∷ []) ∷ (100 ∷ []) ∷ [];
  platform_names = [];
  nodes = node_of n2 true false ∷ node_of n1 false true ∷ [];
  apps = listed ∷ listed ∷ listed ∷ listed ∷ [];
}

abbrev entry_of : App → EntryView
entry_of a = record {
  app = a;
  timeout = 5000;
  places = record { is_tuple = false; nodes = n1 ∷ [] } ∷ record { is_tuple = false; nodes = n2 ∷ [] } ∷ [];
}

abbrev file : OwnFile
file = record {
  own = record { has_dist = true; entries = entry_of d1 ∷ entry_of d2 ∷ entry_of d3 ∷ entry_of d4 ∷ [] };
  wait = wait.After 12000;
}

-- ---- what happens

abbrev none_begun : SystemView
none_begun = system_of cluster (file ∷ file ∷ []) (cell.Node never_begun ∷ cell.Node never_begun ∷ cell.Net no_net ∷ []) no_net false

abbrev one_up : SystemView
one_up = quiet (booted n1 none_begun)

abbrev both_up : SystemView
both_up = quiet (booted n2 one_up)

-- ---- what the prover computes of it

-- the first node has started an application and leaves it to the second one, which takes it
pub record Leaves (a : App) (s : SystemView) : Type 0 where
  pub synchronised : is_synchronised_at n1 s ≡ true
  pub sees : are_linked n1 n2 s.links ≡ true
  pub begun : is_begun a (node_at s n1).controller ≡ true
  pub told : told_of n1 a s ≡ n2 ∷ []
  pub leaves : LeavesIt n1 n2 a (dist_of s n1)
  pub takes : TakesIt (own_at s n2) n1 n2 a (dist_of s n2)
  pub takeovers : (dist_of s n2).t_reqs ≡ []
  pub sees_too : are_linked n2 n1 s.links ≡ true

-- both nodes know and see one another, and have started all four
record Runs (s : SystemView) : Type 0 where
  calls : s.calls ≡ []
  locks : s.locks ≡ []
  over : IsOverBefore s
  listed : controls (own_at s n1) d1 ≡ true
  listed_second : controls (own_at s n1) d2 ≡ true
  listed_third : controls (own_at s n1) d3 ≡ true
  synchronised : is_synchronised_at n1 s ≡ true
  takeovers : (dist_of s n1).t_reqs ≡ []
  ends : (dist_of s n1).s_reqs ≡ []
  knows : is_among n2 (dist_of s n1).known ≡ true
  sees : are_linked n1 n2 s.links ≡ true
  begun : is_begun d1 (node_at s n1).controller ≡ true
  begun_second : is_begun d2 (node_at s n1).controller ≡ true
  begun_third : is_begun d3 (node_at s n1).controller ≡ true
  runs : keyfind d1 (node_at s n1).controller.running ≡ Some place_of.Here
  alone : RunsThereAlone n1 d1 (dist_of s n1)
  not_there : may_run (dist_of s n2) n2 d1 ≡ false
  not_running : keyfind d2 (node_at s n1).controller.running ≡ None
  chosen : IsChosenThen (own_at s n1) n1 d2 (dist_of s n1)
  needs : lacks_running (controller_turn s.cluster (own_at s n1) n1 (node_at s n1)) d2 ≡ None
  runs_there : keyfind d3 (node_at s n2).controller.running ≡ Some place_of.Here
  chosen_third : IsChosenThen (own_at s n1) n1 d3 (dist_of s n1)
  listed_too : controls (own_at s n2) d1 ≡ true
  synchronised_too : is_synchronised_at n2 s ≡ true
  sees_too : are_linked n2 n1 s.links ≡ true
  begun_too : is_begun d1 (node_at s n2).controller ≡ true
  found : IsFoundThen (own_at s n2) n2 d1 (dist_of s n2)
  elsewhere : keyfind d1 (node_at s n2).controller.running ≡ Some (place_of.At n1)
  listed_last : controls (own_at s n1) d4 ≡ true
  may_last : may_run (dist_of s n2) n2 d4 ≡ true
  listed_there : controls (own_at s n2) d4 ≡ true
  moves : Leaves d4 s
  knows_too : is_among n1 (dist_of s n2).known ≡ true
  needs_too : lacks_running (controller_turn s.cluster (own_at s n2) n2 (node_at s n2)) d4 ≡ None

first_there : IsThere n1 both_up
unfolding controller_start controller_stop controller_permit controller_top_ends controller_do_start controller_change controller_received controller_spawn_starter controller_reply_to_requester controller_has_started controller_start_reply dist_finish dist_runs_elsewhere dist_take_over dist_permit dist_get_nodes dist_start_here dist_is_to_start dist_find_start_node dist_start_distributed dist_start_appl dist_check_waiting dist_node_down dist_introduced_to dist_handle_next dist_del_t_reqs dist_run dist_answer_ends dist_not_run dist_stopped dist_new_node dist_answer_permits dist_app_started dist_app_stopped dist_weight_told dist_restart dist_new_permission net_to_connect node_controlled_by node_terminated_by node_handled_by node_introduced_by system_lock_call system_wait_for_lock system_behind_sync system_go_on_call system_call_received system_connect system_delivered system_slowed system_waited_for system_booted system_called system_fired_next system_ticked system_is_ticked system_down_told system_taken_down system_ended system_stopped system_join system_has_seen system_boot_next system_made system_rested system_forgotten system_told system_after system_take_lock system_gone system_handled system_work system_mailed
first_there = record { alive = refl; has = refl; takes_all = refl; mail = refl; permits = refl; parked = refl }

second_there : IsThere n2 both_up
unfolding controller_start controller_stop controller_permit controller_top_ends controller_do_start controller_change controller_received controller_spawn_starter controller_reply_to_requester controller_has_started controller_start_reply dist_finish dist_runs_elsewhere dist_take_over dist_permit dist_get_nodes dist_start_here dist_is_to_start dist_find_start_node dist_start_distributed dist_start_appl dist_check_waiting dist_node_down dist_introduced_to dist_handle_next dist_del_t_reqs dist_run dist_answer_ends dist_not_run dist_stopped dist_new_node dist_answer_permits dist_app_started dist_app_stopped dist_weight_told dist_restart dist_new_permission net_to_connect node_controlled_by node_terminated_by node_handled_by node_introduced_by system_lock_call system_wait_for_lock system_behind_sync system_go_on_call system_call_received system_connect system_delivered system_slowed system_waited_for system_booted system_called system_fired_next system_ticked system_is_ticked system_down_told system_taken_down system_ended system_stopped system_join system_has_seen system_boot_next system_made system_rested system_forgotten system_told system_after system_take_lock system_gone system_handled system_work system_mailed
second_there = record { alive = refl; has = refl; takes_all = refl; mail = refl; permits = refl; parked = refl }

runs : Runs both_up
unfolding controller_start controller_stop controller_permit controller_top_ends controller_do_start controller_change controller_received controller_spawn_starter controller_reply_to_requester controller_has_started controller_start_reply dist_finish dist_runs_elsewhere dist_take_over dist_permit dist_get_nodes dist_start_here dist_is_to_start dist_find_start_node dist_start_distributed dist_start_appl dist_check_waiting dist_node_down dist_introduced_to dist_handle_next dist_del_t_reqs dist_run dist_answer_ends dist_not_run dist_stopped dist_new_node dist_answer_permits dist_app_started dist_app_stopped dist_weight_told dist_restart dist_new_permission net_to_connect node_controlled_by node_terminated_by node_handled_by node_introduced_by system_lock_call system_wait_for_lock system_behind_sync system_go_on_call system_call_received system_connect system_delivered system_slowed system_waited_for system_booted system_called system_fired_next system_ticked system_is_ticked system_down_told system_taken_down system_ended system_stopped system_join system_has_seen system_boot_next system_made system_rested system_forgotten system_told system_after system_take_lock system_gone system_handled system_work system_mailed
runs = record {
  calls = refl;
  locks = refl;
  over = refl;
  listed = refl;
  listed_second = refl;
  listed_third = refl;
  synchronised = refl;
  takeovers = refl;
  ends = refl;
  knows = refl;
  sees = refl;
  begun = refl;
  begun_second = refl;
  begun_third = refl;
  runs = refl;
  alone = record { local = refl; nobody = refl };
  not_there = refl;
  not_running = refl;
  chosen = record { not_here = refl; chosen = record { first = refl; not_yet = refl } };
  needs = refl;
  runs_there = refl;
  chosen_third = record { not_here = refl; chosen = record { first = refl; not_yet = refl } };
  listed_too = refl;
  synchronised_too = refl;
  sees_too = refl;
  begun_too = refl;
  found = record { not_here = refl; elsewhere = record { at = n1; found = inl (refl, refl, refl) } };
  elsewhere = refl;
  listed_last = refl;
  may_last = refl;
  listed_there = refl;
  moves = record {
    synchronised = refl;
    sees = refl;
    begun = refl;
    told = refl;
    leaves = record { local = refl; started = refl; may = refl };
    takes = record { not_here = refl; chosen = record { first = refl; not_yet = refl } };
    takeovers = refl;
    sees_too = refl;
  };
  knows_too = refl;
  needs_too = refl;
}

no_more : NoMore both_up
unfolding controller_start controller_stop controller_permit controller_top_ends controller_do_start controller_change controller_received controller_spawn_starter controller_reply_to_requester controller_has_started controller_start_reply dist_finish dist_runs_elsewhere dist_take_over dist_permit dist_get_nodes dist_start_here dist_is_to_start dist_find_start_node dist_start_distributed dist_start_appl dist_check_waiting dist_node_down dist_introduced_to dist_handle_next dist_del_t_reqs dist_run dist_answer_ends dist_not_run dist_stopped dist_new_node dist_answer_permits dist_app_started dist_app_stopped dist_weight_told dist_restart dist_new_permission net_to_connect node_controlled_by node_terminated_by node_handled_by node_introduced_by system_lock_call system_wait_for_lock system_behind_sync system_go_on_call system_call_received system_connect system_delivered system_slowed system_waited_for system_booted system_called system_fired_next system_ticked system_is_ticked system_down_told system_taken_down system_ended system_stopped system_join system_has_seen system_boot_next system_made system_rested system_forgotten system_told system_after system_take_lock system_gone system_handled system_work system_mailed
no_more zero = refl
no_more (suc k) = refl

is_quiet : is_settled_by 1000 FirstComes (booted n2 one_up) ≡ true
unfolding controller_start controller_stop controller_permit controller_top_ends controller_do_start controller_change controller_received controller_spawn_starter controller_reply_to_requester controller_has_started controller_start_reply dist_finish dist_runs_elsewhere dist_take_over dist_permit dist_get_nodes dist_start_here dist_is_to_start dist_find_start_node dist_start_distributed dist_start_appl dist_check_waiting dist_node_down dist_introduced_to dist_handle_next dist_del_t_reqs dist_run dist_answer_ends dist_not_run dist_stopped dist_new_node dist_answer_permits dist_app_started dist_app_stopped dist_weight_told dist_restart dist_new_permission net_to_connect node_controlled_by node_terminated_by node_handled_by node_introduced_by system_lock_call system_wait_for_lock system_behind_sync system_go_on_call system_call_received system_connect system_delivered system_slowed system_waited_for system_booted system_called system_fired_next system_ticked system_is_ticked system_down_told system_taken_down system_ended system_stopped system_join system_has_seen system_boot_next system_made system_rested system_forgotten system_told system_after system_take_lock system_gone system_handled system_work system_mailed
is_quiet = refl

nobody_yet : (k : ℕ) → node_at none_begun (record { 0 = k }) ≡ never_begun
nobody_yet zero = refl
nobody_yet (suc zero) = refl
nobody_yet (suc (suc zero)) = refl
nobody_yet (suc (suc (suc k))) = refl

first_reached : IsReached none_begun
first_reached = new none_begun (record {
  nodes = λ n. nobody_yet n.0;
  alive = refl;
  links = refl;
  locks = refl;
  timers = refl;
  calls = refl;
  messages = refl;
  slow = refl;
})

both_reached : IsReached both_up
unfolding controller_start controller_stop controller_permit controller_top_ends controller_do_start controller_change controller_received controller_spawn_starter controller_reply_to_requester controller_has_started controller_start_reply dist_finish dist_runs_elsewhere dist_take_over dist_permit dist_get_nodes dist_start_here dist_is_to_start dist_find_start_node dist_start_distributed dist_start_appl dist_check_waiting dist_node_down dist_introduced_to dist_handle_next dist_del_t_reqs dist_run dist_answer_ends dist_not_run dist_stopped dist_new_node dist_answer_permits dist_app_started dist_app_stopped dist_weight_told dist_restart dist_new_permission net_to_connect node_controlled_by node_terminated_by node_handled_by node_introduced_by system_lock_call system_wait_for_lock system_behind_sync system_go_on_call system_call_received system_connect system_delivered system_slowed system_waited_for system_booted system_called system_fired_next system_ticked system_is_ticked system_down_told system_taken_down system_ended system_stopped system_join system_has_seen system_boot_next system_made system_rested system_forgotten system_told system_after system_take_lock system_gone system_handled system_work system_mailed
both_reached = begins_at one_up n2 never_begun refl refl (begins_at none_begun n1 never_begun refl refl first_reached)

-- ---- so the laws are of it

pub are_at_rest : (s : SystemView) → IsThere n1 s → IsThere n2 s → s.calls ≡ [] → NoMore s → IsSettled s → AreAtRest s
are_at_rest s first second no_calls none settled = record {
  settled = settled;
  calls = no_calls;
  dists = λ n d alive has.
      of_both (λ (m : Node). (e : DistView) → (node_at s m).dist ≡ Some e → IsUnoccupied e) s none
      (at_rest s n1 first) (at_rest s n2 second) n.0 alive d has;
}

-- it sees the other one
sees_both : (s : SystemView) → are_linked n1 n2 s.links ≡ true → NoMore s → (m : Node) → is_alive_at s m ≡ true
    → (n1.0 == m.0 || are_linked n1 m s.links) ≡ true
sees_both s sees none m alive = of_both (λ (k : Node). (n1.0 == k.0 || are_linked n1 k s.links) ≡ true) s none refl sees m.0 alive

sees_list : (s : SystemView) (a : App) → is_synchronised_at n1 s ≡ true → are_linked n1 n2 s.links ≡ true → NoMore s → SeesList n1 a s
sees_list s a synchronised sees none = record { synchronised = synchronised; sees = λ m among alive. sees_both s sees none m alive }

sees_all : (s : SystemView) → IsThere n1 s → Runs s → NoMore s → SeesAll n1 s
sees_all s there so none = record {
  takeovers = λ d has. ap (λ (x : DistView). x.t_reqs) (sym (is_it s n1 d there has)) ∙ so.takeovers;
  sees = λ d has m among alive. sees_both s so.sees none m alive;
}

stops : (s : SystemView) → IsThere n1 s → IsThere n2 s → Runs s → NoMore s → StopsBehind n1 d1 s
stops s first second so none = record {
  sees_list = sees_list s d1 so.synchronised so.sees none;
  alone = λ d has is. subst (RunsThereAlone n1 d1) (is_it s n1 d first has) so.alone;
  tells = record {
    sees_all = sees_all s first so none;
    ends = λ d has. ap (λ (x : DistView). x.s_reqs) (sym (is_it s n1 d first has)) ∙ so.ends;
  };
  others = λ m d other among alive has is controlled.
      of_both (λ (k : Node). k.0 ≢ n1.0 → (e : DistView) → (node_at s k).dist ≡ Some e → may_run e k d1 ≡ false) s none
      (λ no. absurd (no refl))
      (λ _ e there. ap (λ (x : DistView). may_run x n2 d1) (sym (is_it s n2 e second there)) ∙ so.not_there)
      m.0 alive other d has;
}

starts : (s : SystemView) (a : App) → IsThere n1 s → Runs s → NoMore s → IsChosenThen (own_at s n1) n1 a (dist_of s n1)
    → StartsBehind n1 a s
starts s a there so none chosen = record {
  sees_list = sees_list s a so.synchronised so.sees none;
  chooses = λ d has is. subst (IsChosenThen (own_at s n1) n1 a) (is_it s n1 d there has) chosen;
  sees_all = sees_all s there so none;
}

finds : (s : SystemView) → IsThere n2 s → Runs s → NoMore s → FindsElsewhere n2 d1 s
finds s there so none = record {
  sees_list = record {
    synchronised = so.synchronised_too;
    sees = λ m among alive.
        of_both (λ (k : Node). (n2.0 == k.0 || are_linked n2 k s.links) ≡ true) s none so.sees_too refl m.0 alive;
  };
  finds = λ d has is. subst (IsFoundThen (own_at s n2) n2 d1) (is_it s n2 d there has) so.found;
}

is_second : n2.0 ≢ n1.0
is_second is = omega (arith, is)

pub moves : (s : SystemView) (a : App) → IsThere n1 s → IsThere n2 s → Leaves a s → NoMore s → MovesBehind n1 a s
moves s a first second so none = record {
  at = n2;
  other = is_second;
  sees_list = sees_list s a so.synchronised so.sees none;
  begun = so.begun;
  once = ap (filter (λ m. m.0 == n2.0)) so.told;
  leaves = λ d has is. subst (LeavesIt n1 n2 a) (is_it s n1 d first has) so.leaves;
  takes = λ d has is may. subst (TakesIt (own_at s n2) n1 n2 a) (is_it s n2 d second has) so.takes;
  sees_all = record {
    takeovers = λ d has. ap (λ (x : DistView). x.t_reqs) (sym (is_it s n2 d second has)) ∙ so.takeovers;
    sees = λ d has m among alive.
        of_both (λ (k : Node). (n2.0 == k.0 || are_linked n2 k s.links) ≡ true) s none so.sees_too refl m.0 alive;
  };
  others = λ m d other among has. absurd (alone m other (sym (ap (λ nodes. is_among m nodes) so.told) ∙ among));
}
  where
    alone : (m : Node) → m.0 ≢ n2.0 → is_among m (n2 ∷ []) ≡ true → ⊥
    alone m other among = false≢true (sym (ap (λ b. b || false) (ne_eqb m.0 n2.0 other)) ∙ among)

-- There are such calls: at the first node a forbid of the application that it may run alone, a permit of the one that runs nowhere, a
-- permit of the one that runs at the second node, and a forbid of the one that both may run; and at the second one a permit of the first.
record Row : Type 0 where
  is_reached : IsReached both_up
  is_at_rest : AreAtRest both_up
  runs : Runs both_up
  stops : StopsBehind n1 d1 both_up
  starts : StartsBehind n1 d2 both_up
  takes_over : StartsBehind n1 d3 both_up
  finds : FindsElsewhere n2 d1 both_up
  moves : MovesBehind n1 d4 both_up

row : Row
row = record {
  is_reached = both_reached;
  is_at_rest = are_at_rest both_up first_there second_there runs.calls no_more ((settles 1000 FirstComes (booted n2 one_up)).1 is_quiet);
  runs = runs;
  stops = stops both_up first_there second_there runs no_more;
  starts = starts both_up d2 first_there runs no_more runs.chosen;
  takes_over = starts both_up d3 first_there runs no_more runs.chosen_third;
  finds = finds both_up second_there runs no_more;
  moves = moves both_up d4 first_there second_there runs.moves no_more;
}
